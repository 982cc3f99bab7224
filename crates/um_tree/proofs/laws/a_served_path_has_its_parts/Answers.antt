use Rattle.um_model.proofs.TreeLaws.{path_of_parts, parts_of_path}
use Rattle.um_tree.proofs.laws.a_served_path_has_its_parts.Goals as goal

pub returns : goal.returns
returns c = λ path p. (path_of_parts path p, parts_of_path path p)
