use Rattle.std.proofs.Common.{sym, subst}
use Rattle.um_model.specs.Tree.{IsTree}
use Rattle.um_model.proofs.TreeLaws.{remove_keeps}
use Rattle.um_tree.proofs.Trees.{tree_of_removed}
use Rattle.um_tree.proofs.tree.Tree.take_out.Goals as goal

pub returns : goal.returns
returns c = tree_of_removed c.self.inside.entries c.remove.new.self c.args.self.now c.args.path.now c.self.view_is c.remove.ensures.updates

pub invariant_of-self : goal.invariant_of-self
invariant_of-self c = subst IsTree (sym (returns c)) (remove_keeps c.args.self.now c.args.path.now (subst IsTree c.self.view_is c.self.invariant))
