use Rattle.std.proofs.Common.{◌≡◌, ◌++◌, length}
use Rattle.um_output.specs.Showing as model
use Rattle.um_output.proofs.showing.printed.Given as goal

-- the text of the bytes so far, then of the rest, is the text of all bytes
abbrev pub invariant-loop-rest : goal.invariant-loop-rest
invariant-loop-rest l = l.text.items ++ model.shown l.rest ≡ model.shown l.initial.rest

abbrev pub decreases-loop-rest : goal.decreases-loop-rest
decreases-loop-rest l = length l.rest
