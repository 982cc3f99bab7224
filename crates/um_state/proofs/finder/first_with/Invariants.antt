use Rattle.std.proofs.Common.{ℕ, ◌<◌}
use Rattle.um_model.specs.Transitions.{HasNumber}
use Rattle.um_state.specs.Finding.{row_at}
use Rattle.um_state.proofs.finder.first_with.Given as goal

-- no row so far has the number
abbrev pub invariant-loop-i : goal.invariant-loop-i
invariant-loop-i l = (j : ℕ) → j < l.i → ¬ HasNumber (row_at l.rows j) l.number
