use Rattle.um_unit.proofs.ReadingLemmas.{AreRead}
use Rattle.um_unit.proofs.readings.all_read.Given as goal

-- the results so far
abbrev pub invariant-loop-reading : goal.invariant-loop-reading
invariant-loop-reading g l = AreRead l.yielded l.all.items
