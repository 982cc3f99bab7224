use Rattle.std.proofs.Common.{◌≡◌, None}
use Rattle.um_timer.specs.Due.{soonest, seen_due}
use Rattle.um_timer.proofs.timers.Timers.next_due.Given as goal

abbrev pub invariant-loop-unit : goal.invariant-loop-unit
invariant-loop-unit l = soonest (seen_due l.next) l.unit-iterator ≡ soonest None l.initial.unit-iterator
