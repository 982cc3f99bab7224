use Rattle.std.proofs.Common.{◌-◌, ◌<◌, ◌≤◌, ℕ, length}
use Rattle.um_state.specs.LiveRows.{live_number}
use Rattle.um_state.proofs.live.lower_than.Given as goal

-- those before are lower, and those from there on are not
abbrev pub invariant-loop-low : goal.invariant-loop-low
invariant-loop-low l = (l.low ≤ l.high) × (l.high ≤ length l.list) × ((i : ℕ) → i < l.low → live_number l.list i < l.number) × ((i : ℕ) → l.high ≤ i → i < length l.list → l.number ≤ live_number l.list i)

abbrev pub decreases-loop-low : goal.decreases-loop-low
decreases-loop-low l = l.high - l.low
