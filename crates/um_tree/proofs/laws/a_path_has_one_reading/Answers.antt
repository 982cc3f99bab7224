use Rattle.um_model.proofs.TreeLaws.{one_path_reading}
use Rattle.um_tree.proofs.laws.a_path_has_one_reading.Goals as goal

pub returns : goal.returns
returns c = one_path_reading
