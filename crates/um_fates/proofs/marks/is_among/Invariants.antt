use Rattle.std.proofs.Common.{◌≡◌, take, false}
use Rattle.um_fates.specs.Live.{has}
use Rattle.um_fates.proofs.marks.is_among.Given as goal

abbrev pub invariant-loop-other : goal.invariant-loop-other
invariant-loop-other l = has l.number (take l.other-index l.numbers) ≡ false
