use Rattle.std.proofs.Common.{string_bytes, sym, subst}
use Rattle.um_model.specs.Tree.{IsTree}
use Rattle.um_tree.proofs.Trees.{tree_of_inserted}
use Rattle.um_tree.proofs.tree.Tree.insert.Goals as goal

pub invariant_of-self-2 : goal.invariant_of-self-2
invariant_of-self-2 c =
    subst IsTree
    (sym (tree_of_inserted c.self.inside.entries c.insert.new.self c.args.self.now (string_bytes c.in_ok-path.path) c.args.path.now c.args.entry c.self.view_is c.in_ok-path.ensures.ok c.in_ok-insert.ensures.updates))
    c.requires

pub returns-clause-ok : goal.returns-clause-ok
returns-clause-ok c =
    tree_of_inserted c.self.inside.entries c.insert.new.self c.args.self.now (string_bytes c.in_ok-path.path) c.args.path.now c.args.entry c.self.view_is c.in_ok-path.ensures.ok c.in_ok-insert.ensures.updates
