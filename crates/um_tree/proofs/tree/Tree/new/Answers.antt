use Rattle.std.proofs.Common.{sym, subst}
use Rattle.um_model.proofs.TreeLaws.{empty_is}
use Rattle.um_model.specs.Tree.{IsTree}
use Rattle.um_tree.specs.View.{tree_of}
use Rattle.um_tree.proofs.tree.Tree.new.Goals as goal

pub invariant_of-result : goal.invariant_of-result
invariant_of-result c = subst (λ es. IsTree (tree_of es)) (sym c.new.ensures.empty) empty_is
