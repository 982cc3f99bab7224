use Rattle.std.proofs.Common.{not, ap, sym, ◌∙◌}
use Rattle.um_model.specs.Service.{holds_nothing}
use Rattle.um_state.proofs.UnitScans.{all_pass, one_fails}
use Rattle.um_state.proofs.unit_bytes.are_known.Goals as goal

pub returns-then-holds_nothing : goal.returns-then-holds_nothing
returns-then-holds_nothing c =
    let all = c.into_iter-unit-iterator.ensures.into_iter_gives ∙ c.iter-unit-items.ensures.rest in
    one_fails (λ e. not (holds_nothing e.1)) c.args.entries.now c.iter-unit-items.ensures.ordered _ _ _ _ all c.loop-unit.invariant c.in-Some.ensures.steps
    (ap not (sym c.holds_nothing.ensures ∙ c.if-holds_nothing.true))

pub returns : goal.returns
returns c =
    let all = c.into_iter-unit-iterator.ensures.into_iter_gives ∙ c.iter-unit-items.ensures.rest in
    all_pass (λ e. not (holds_nothing e.1)) c.args.entries.now c.iter-unit-items.ensures.ordered _ _ all c.loop-unit.invariant c.in-None.ensures.steps.0
