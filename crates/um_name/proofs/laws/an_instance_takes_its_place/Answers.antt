use Rattle.um_model.proofs.NamesLaws.{with_instance-name}
use Rattle.um_name.proofs.laws.an_instance_takes_its_place.Goals as goal

pub returns : goal.returns
returns c = with_instance-name
