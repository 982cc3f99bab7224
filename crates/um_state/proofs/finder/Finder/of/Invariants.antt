use Rattle.um_state.proofs.FindingLaws.{FindsBelow}
use Rattle.um_state.proofs.finder.Finder.of.Given as goal

-- the rows so far are recorded
abbrev pub invariant-loop-i : goal.invariant-loop-i
invariant-loop-i l = FindsBelow l.rows l.finder l.i
