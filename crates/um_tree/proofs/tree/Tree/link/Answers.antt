use Rattle.std.proofs.Common.{is_some, ap, sym, subst, ◌∙◌}
use Rattle.std.specs.FinMap as map
use Rattle.um_model.proofs.TreeLaws.{link_keeps}
use Rattle.um_model.specs.Tree.{IsTree, Link}
use Rattle.um_tree.proofs.Trees.{put_link-same, is_some-option_map}
use Rattle.um_tree.specs.View.{entry_of}
use Rattle.um_tree.proofs.tree.Tree.link.Goals as goal

pub returns-then-is_some-clause-ok : goal.returns-then-is_some-clause-ok
returns-then-is_some-clause-ok c = put_link-same c.args.self.now c.args.path.now c.args.target.now (sym c.in_default.ensures)
    (ap is_some (sym c.get.ensures) ∙ is_some-option_map entry_of c.get.result ∙ sym c.is_some.ensures ∙ c.if-is_some.true)

pub insert-requires : goal.insert-requires
insert-requires c =
    subst (λ bs. IsTree (map.insert c.args.self.now c.args.path.now (Link bs))) (sym c.in_ok-target.ensures.ok)
    (link_keeps c.args.self.now c.args.path.now c.args.target.now (subst IsTree c.self.view_is c.self.invariant) (sym c.in_default.ensures))
