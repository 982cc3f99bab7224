use Rattle.um_model.proofs.NamesLaws.{one_reading}
use Rattle.um_name.proofs.laws.a_name_has_one_reading.Goals as goal

pub returns : goal.returns
returns c = one_reading
