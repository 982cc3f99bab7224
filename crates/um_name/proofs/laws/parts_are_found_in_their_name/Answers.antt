use Rattle.um_model.proofs.NamesLaws.{prefix_of-name, instance_of-name, suffix_of-name}
use Rattle.um_name.proofs.laws.parts_are_found_in_their_name.Goals as goal

pub returns : goal.returns
returns c = record { prefix = prefix_of-name; instance = instance_of-name; suffix = suffix_of-name }
