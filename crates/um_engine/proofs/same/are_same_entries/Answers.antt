use Rattle.std.proofs.Common.{◌∙◌, true≢false, sym}
use Rattle.um_tree.specs.View.{path_with_entry}
use Rattle.um_engine.proofs.EntriesLaws.{begins_otherwise, begins_so, both_end, same_rest}
use Rattle.um_engine.proofs.same.are_same_entries.Goals as goal

pub loop-path-init : goal.loop-path-init
loop-path-init c = (λ e. e, λ e. e)

pub returns-then-not-is_same_at : goal.returns-then-not-is_same_at
returns-then-not-is_same_at c = (
  λ t. absurd (true≢false (sym t)),
  λ e. absurd (begins_otherwise path_with_entry _ _ _ c.in-Some.ensures.steps _ _ _ c.next-in-loop-path.ensures.steps
      (λ so. true≢false (sym (c.is_same_at.ensures.1 so) ∙ c.if-not-is_same_at.true))
      (c.loop-path.invariant.1 (c.into_iter-path-iterator.ensures.into_iter_gives ∙ e))),
)

pub loop-path-preserved : goal.loop-path-preserved
loop-path-preserved c =
    let so = begins_so path_with_entry _ _ _ c.in-Some.ensures.steps _ _ _ c.next-in-loop-path.ensures.steps (c.is_same_at.ensures.0 c.if-not-is_same_at.false) in
    let rest = same_rest path_with_entry _ _ _ c.in-Some.ensures.steps _ _ so in
    (λ e. c.loop-path.invariant.0 (rest.0 e), λ e. rest.1 (c.loop-path.invariant.1 e))

pub returns : goal.returns
returns c =
    let ends = both_end path_with_entry c.next-2.result c.is_none.result _ _ _ c.in-None.ensures.steps.0 c.next-2.ensures.steps c.is_none.ensures in (
      λ t. sym c.into_iter-path-iterator.ensures.into_iter_gives ∙ c.loop-path.invariant.0 (ends.0 t),
      λ e. ends.1 (c.loop-path.invariant.1 (c.into_iter-path-iterator.ensures.into_iter_gives ∙ e)),
    )
