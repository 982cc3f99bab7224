-- For which reports units wait, and when numbers leave none of these out.
-- Follows no manual page: it is how a report that no unit waits for is known without a look at any unit.
-- The contracts of Awaited and of Units, and the ghost field of Units, cite it.
use Rattle.std.specs.Prelude.{◌≡◌, ◌≢◌, ◌||◌, ℕ, Bool, true, if◌then◌else◌, List, Option, Some, None, is_some}
use Rattle.um_model.specs.Ends.{waits_for_report}
use Rattle.um_model.specs.Service.{ByUnit, state_of_unit}
use Rattle.um_model.specs.declared.service.UnitState.{UnitState}
use Rattle.um_state.specs.Finding.{row_at}
use Rattle.um_state.specs.LiveRows.{told}
use Rattle.um_state.specs.declared.awaited.Awaited.{Awaited}

-- the number of the process whose report a unit that stands so may wait for
abbrev pub awaited_by : UnitState → Option ℕ
awaited_by u = if waits_for_report u.sub then u.main else None

-- no unit waits for the report of the process with the number
abbrev pub IsUnawaited : ByUnit UnitState → ℕ → Type 0
IsUnawaited units number = (unit : List ℕ) → awaited_by (state_of_unit units unit) ≢ Some number

-- no row does
abbrev pub NoneAwaits : List UnitState → ℕ → Type 0
NoneAwaits rows number = (i : ℕ) → awaited_by (row_at rows i) ≢ Some number

-- the number is one of them, or may be one that was left out
abbrev pub may_have : Awaited → ℕ → Bool
may_have awaited number = awaited.is_partial || is_some (told awaited.live.list.items number)

abbrev pub Has : Awaited → ℕ → Type 0
Has awaited number = may_have awaited number ≡ true

-- no number is left out for whose report the unit of a row may wait
abbrev pub HasAll : List UnitState → Awaited → Type 0
HasAll rows awaited = (i number : ℕ) → awaited_by (row_at rows i) ≡ Some number → Has awaited number
