use Rattle.std.proofs.Common.{rules, not, string_bytes, sym, subst}
use Rattle.std.proofs.lemmas.Map.Made.{filter_same_pairs}
use Rattle.um_model.specs.Tree.{IsTree, is_volatile}
use Rattle.um_model.proofs.TreeLaws.{without_run_keeps}
use Rattle.um_tree.proofs.Trees.{tree_of_cleared}
use Rattle.um_tree.proofs.tree.Tree.clear_run.Goals as goal

pub returns : goal.returns
returns c =
    tree_of_cleared c.self.inside.entries c.retain.new.self c.args.self.now c.self.view_is
    (filter_same_pairs _ (λ e. not (is_volatile (string_bytes e.0))) _ (λ k v b w f h. search rules) _ _ c.retain.ensures.filtered)

pub invariant_of-self : goal.invariant_of-self
invariant_of-self c = subst IsTree (sym (returns c)) (without_run_keeps c.args.self.now (subst IsTree c.self.view_is c.self.invariant))
