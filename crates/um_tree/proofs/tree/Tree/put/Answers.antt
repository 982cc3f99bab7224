use Rattle.std.proofs.Common.{sym, subst}
use Rattle.std.specs.FinMap as map
use Rattle.um_model.proofs.TreeLaws.{put_keeps}
use Rattle.um_model.specs.Tree.{IsTree, File}
use Rattle.um_tree.proofs.tree.Tree.put.Goals as goal

pub insert-requires : goal.insert-requires
insert-requires c =
    subst (λ bs. IsTree (map.insert c.args.self.now c.args.path.now (File bs))) (sym c.in_ok-text.ensures.ok)
    (put_keeps c.args.self.now c.args.path.now c.args.text.now (subst IsTree c.self.view_is c.self.invariant) (sym c.in_default.ensures))
