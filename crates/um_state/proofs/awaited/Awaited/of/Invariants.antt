use Rattle.um_state.proofs.AwaitingLaws.{HasBelow}
use Rattle.um_state.proofs.awaited.Awaited.of.Given as goal

-- of the rows so far none is left out
abbrev pub invariant-loop-i : goal.invariant-loop-i
invariant-loop-i l = HasBelow l.rows l.awaited l.i
