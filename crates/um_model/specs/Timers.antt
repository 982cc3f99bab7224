-- The timers of units: a map from unit names to deadlines, and the one that is due first.
-- Follows systemd.service(5), "TimeoutStartSec=", "TimeoutStopSec=" and "RestartSec=", whose ends are these deadlines.
-- The tick of the machine depends on this file.
use Rattle.std.specs.Prelude.{◌≡◌, ℕ, ◌<◌, List, Some}
use Rattle.std.specs.Ordering.{nat_cmp}
use Rattle.std.specs.Cmp.Lexicographic.{slice_cmp}
use Rattle.std.specs.FinMap as map
use Rattle.um_model.specs.Least.{IsLeast, IsNamedBefore}

-- the deadlines that are set, in microseconds, by the names of their units
abbrev pub Timers : Type 0
Timers = map.FinMap (slice_cmp nat_cmp) ℕ

-- one timer, its deadline and its unit, is due before another: its deadline is earlier, or the same and the name of its unit less
pub data IsDueBefore (timer other : ℕ × List ℕ) : Type 0 where
  earlier : timer.0 < other.0 → IsDueBefore timer other
  by_name : timer.0 ≡ other.0 → IsNamedBefore timer.1 other.1 → IsDueBefore timer other

-- this timer is set, and due before every other one
abbrev pub IsDueFirst : Timers → ℕ → List ℕ → Type 0
IsDueFirst timers deadline unit = IsLeast IsDueBefore (λ timer. map.get timers timer.1 ≡ Some timer.0) (deadline, unit)
