use Rattle.std.proofs.Common.{◌≡◌, ℕ, length}
use Rattle.um_state.specs.Rows.{rows_before}
use Rattle.um_state.proofs.delta.Delta.undo.Given as goal

abbrev pub invariant-loop-row : goal.invariant-loop-row
invariant-loop-row l = rows_before l.rows.items l.state ≡ rows_before l.initial.rows.items l.initial.state

abbrev pub decreases-loop-row : goal.decreases-loop-row
decreases-loop-row l = length l.rows.items
