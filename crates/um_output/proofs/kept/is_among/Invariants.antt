use Rattle.std.proofs.Common.{◌≡◌, false, take}
use Rattle.um_output.specs.Kept.{has}
use Rattle.um_output.proofs.kept.is_among.Given as goal

-- it is none of the numbers so far
abbrev pub invariant-loop-other : goal.invariant-loop-other
invariant-loop-other l = has l.number (take l.other-index l.numbers) ≡ false
