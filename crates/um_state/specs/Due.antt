-- That no deadline of any unit is due.
-- Follows no manual page: deadlines are the machine's own.
-- The test that a tick makes before it copies anything stands on this file.
use Rattle.std.specs.Prelude.{◌≡◌, ◌<◌, ℕ, Bool, true, nat_lt, List, Option, Some, None}
use Rattle.std.specs.FinMap as map
use Rattle.std.specs.List.{list_all}
use Rattle.std.specs.Option.{option_map_or}
use Rattle.um_model.specs.Service.{ByUnit, state_of_unit}
use Rattle.um_model.specs.Timers.{Timers}
use Rattle.um_model.specs.declared.service.UnitState.{UnitState}

-- each deadline is later than the moment
abbrev pub NoneDue : ℕ → ByUnit UnitState → Type 0
NoneDue t units = (unit : List ℕ) (deadline : ℕ) → (state_of_unit units unit).deadline ≡ Some deadline → t < deadline

-- the deadline, if there is one, is later than the moment
abbrev pub is_later : ℕ → Option ℕ → Bool
is_later t deadline = option_map_or (λ d. nat_lt t d) deadline true

-- the same of the deadlines of all entries
abbrev pub are_later : ℕ → ByUnit UnitState → Bool
are_later t units = list_all (λ e. is_later t e.1.deadline) (map.entries units)

-- with the deadline of a unit, if it has one
abbrev pub with_deadline : Timers → List ℕ → Option ℕ → Timers
with_deadline timers unit None = timers
with_deadline timers unit (Some deadline) = map.insert timers unit deadline
