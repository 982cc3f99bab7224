use Rattle.std.proofs.Common.{rules, ◌≡◌, ◌&&◌, true, false, nat_le, string_bytes, map as each, ap, sym, ◌∙◌}
use Rattle.std.specs.List.{list_all}
use Rattle.um_model.specs.Tree.{is_fit_entry, entry_limit}
use Rattle.um_tree.specs.View.{path_and_entry, stored_entry}
use Rattle.um_tree.proofs.Fits.{all_fit, no_tree, tree_if_few}
use Rattle.um_tree.proofs.bytes.are_tree.Goals as goal

pub returns-then-not-is_fit_entry : goal.returns-then-not-is_fit_entry
returns-then-not-is_fit_entry c =
    let m = c.args.entries.now in
    let all = c.into_iter-path-iterator.ensures.into_iter_gives ∙ c.iter-path-items.ensures.rest in
    let unfit : is_fit_entry (string_bytes c.in-Some.path.now) (stored_entry c.in-Some.entry.now) ≡ false = search rules in
    let left = rw c.in-Some.ensures.steps at c.loop-path.invariant in
    let none : all_fit m ≡ false =
    ap (λ es. list_all (λ e. is_fit_entry e.0 e.1) (each path_and_entry es)) (sym all)
    ∙ (sym left ∙ ap (λ b. b && list_all (λ e. is_fit_entry e.0 e.1) (each path_and_entry c.next.new.self)) unfit) in
    no_tree m c.iter-path-items.ensures.ordered none

pub returns : goal.returns
returns c =
    let m = c.args.entries.now in
    let all = c.into_iter-path-iterator.ensures.into_iter_gives ∙ c.iter-path-items.ensures.rest in
    let left = rw c.in-None.ensures.steps.0 at c.loop-path.invariant in
    let fit : all_fit m ≡ true = ap (λ es. list_all (λ e. is_fit_entry e.0 e.1) (each path_and_entry es)) (sym all) ∙ sym left in
    ap (λ n. nat_le n entry_limit) c.len.ensures.len ∙ tree_if_few m c.iter-path-items.ensures.ordered fit
