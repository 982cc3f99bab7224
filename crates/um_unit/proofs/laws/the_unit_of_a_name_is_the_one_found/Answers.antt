use Rattle.um_model.proofs.OwnNameLaws.{named_by_loading}
use Rattle.um_unit.proofs.laws.the_unit_of_a_name_is_the_one_found.Goals as goal

pub returns : goal.returns
returns c = named_by_loading
