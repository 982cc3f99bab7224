use Rattle.std.specs.FinMap as finite
use Rattle.um_engine.proofs.WorkedLaws.{Firing}
use Rattle.um_engine.proofs.settling.fire_all.Given as goal

-- a run that fires the rest fires the whole
abbrev pub invariant-timers : goal.invariant-timers
invariant-timers l = Firing l.initial.work l.work l.initial.timers l.timers

-- the timers that are left
abbrev pub decreases-timers : goal.decreases-timers
decreases-timers l = finite.len l.timers
