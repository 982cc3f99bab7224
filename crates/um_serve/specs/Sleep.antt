-- The length of a sleep between rounds in which nothing arrived, and its deadline.
-- No manual page has this: it is the project's own (docs/ARCHITECTURE.md, "The way of one input").
-- The pace of the loop, and its waits, stand on this file.
use Rattle.std.specs.Prelude.{◌≡◌, ◌<◌, ◌≤◌, ◌-◌, min, nat_lt, ℕ, List, Bool, if◌then◌else◌, Option, Some, None, MatchOption}
use Rattle.um_model.specs.Machine.{State}
use Rattle.um_model.specs.Service.{ByUnit, state_of_unit}
use Rattle.um_model.specs.declared.service.UnitState.{UnitState}

-- a turn changed the state: each step that has an effect sets its clock to the turn's moment, and one that has none leaves it
abbrev pub has_changed : (before after : State) → Bool
has_changed before after = nat_lt before.clock after.clock

-- no unit has a deadline past a moment
abbrev pub NoneAfter : ByUnit UnitState → ℕ → Type 0
NoneAfter units moment = (unit : List ℕ) (deadline : ℕ) → (state_of_unit units unit).deadline ≡ Some deadline → deadline ≤ moment

-- the least deadline past a moment that a unit has
pub record IsNextAfter (units : ByUnit UnitState) (moment deadline : ℕ) : Type 0 where
  pub unit : List ℕ
  pub waits : (state_of_unit units unit).deadline ≡ Some deadline
  pub past : moment < deadline
  pub least : (other : List ℕ) (later : ℕ) → (state_of_unit units other).deadline ≡ Some later → moment < later → deadline ≤ later

-- The deadline that is slept for, from a turn at a moment on: the least one past that moment. One up to that moment was
-- offered to the turn. It stands because something holds it up, such as a job that its restart has to wait for; the end
-- of that is heard, and wakes by itself.
abbrev pub IsSleptFor : State → (turned : ℕ) → Option ℕ → Type 0
IsSleptFor s turned deadline = MatchOption deadline (NoneAfter s.units turned) (IsNextAfter s.units turned)

-- a second, in microseconds
abbrev pub second : ℕ
second = 1000000

-- the time until the next deadline, a second at most
abbrev pub until : ℕ → Option ℕ → ℕ
until now (Some deadline) = min (deadline - now) second
until now None = second

-- the microseconds slept, until the deadline or a second at most: and no more than the wait while something is open
-- that no runner reports
abbrev pub slept : (wait : ℕ) → Bool → (now : ℕ) → Option ℕ → ℕ
slept wait is_open now deadline = min (if is_open then wait else second) (until now deadline)
