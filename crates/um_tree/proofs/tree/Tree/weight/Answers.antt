use Rattle.std.proofs.Common.{◌≤◌, ◌∙◌, ◌^◌, ap, subst, sym, arith}
use Rattle.std.specs.FinMap as map
use Rattle.std.specs.List.{sum_by, list_all}
use Rattle.std.proofs.lemmas.Bool.{and_parts}
use Rattle.std.proofs.lemmas.List.Sums.{sum-map}
use Rattle.um_model.specs.Tree.{is_fit_entry}
use Rattle.um_model.proofs.TreeLaws.{entries-fit}
use Rattle.um_model.proofs.WeightLaws.{weight_by_entry, entry_light, tree_light}
use Rattle.um_tree.proofs.tree.Tree.weight.Goals as goal

pub loop-path-init : goal.loop-path-init
loop-path-init c =
    let tree = c.args.self.now in
    let all = c.into_iter-path-iterator.ensures.into_iter_gives ∙ c.entries-path-items.ensures.entries in
    let same = sum-map weight_by_entry (map.entries tree) in
    let light : sum_by weight_by_entry (map.entries tree) ≤ 2 ^ 29 = subst (λ n. n ≤ 2 ^ 29) same (tree_light tree c.entries-path-items.ensures.tree) in
    record {
      whole = omega arith;
      light = subst (λ es. sum_by weight_by_entry es ≤ 2 ^ 29) (sym all) light;
      fit = ap (list_all (λ e. is_fit_entry e.0 e.1)) all ∙ entries-fit tree c.entries-path-items.ensures.tree;
    }

pub entry_weight-weight-requires : goal.entry_weight-weight-requires
entry_weight-weight-requires c =
    let fit = rw c.in-Some.ensures.steps at c.loop-path.invariant.fit in
    entry_light c.in-Some.path.now _ (and_parts _ _ fit).0
