use Rattle.std.proofs.Common.{◌∙◌, ap, sym, None}
use Rattle.um_timer.specs.Due.{soonest, seen_due}
use Rattle.um_timer.proofs.Soonest.{told}
use Rattle.um_timer.proofs.timers.Timers.next_due.Goals as goal

pub returns : goal.returns
returns c =
    let done = sym (ap (soonest (seen_due c.loop-unit.next)) c.in-None.ensures.steps.0) ∙ c.loop-unit.invariant in
    let all = c.into_iter-unit-iterator.ensures.into_iter_gives ∙ c.iter-unit-items.ensures.rest in
    told c.self.inside.deadlines c.iter-unit-items.ensures.ordered c.loop-unit.next (done ∙ ap (soonest None) all) c.args.self.now c.self.view_is
