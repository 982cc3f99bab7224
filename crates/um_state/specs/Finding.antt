-- How the row of a live number is found without a look at all rows.
-- Follows no manual page: it is how the code finds the unit of a process.
-- The contracts of Finder and the ghost field of Units cite it.
use Rattle.std.specs.Prelude.{◌≡◌, ◌<◌, ℕ, false, List, Some, length, slice_index_or}
use Rattle.um_model.specs.Service.{dead_unit}
use Rattle.um_model.specs.Transitions.{HasNumber}
use Rattle.um_model.specs.declared.service.UnitState.{UnitState}
use Rattle.um_state.specs.LiveRows.{told}
use Rattle.um_state.specs.declared.finder.Finder.{Finder}
use Rattle.um_state.specs.declared.live.Live.{Live}

-- the row with this number; past the last one a dead unit's
abbrev pub row_at : List UnitState → ℕ → UnitState
row_at rows i = slice_index_or rows i dead_unit

-- unless numbers are left out, this row is recorded for the number
abbrev pub Tells : Finder → ℕ → ℕ → Type 0
Tells finder i number = finder.is_partial ≡ false → told finder.live.list.items number ≡ Some i

-- each row is recorded for the numbers of its live processes
abbrev pub Finds : List UnitState → Finder → Type 0
Finds rows finder = (i number : ℕ) → HasNumber (row_at rows i) number → Tells finder i number

-- the row that is recorded for the number still has it
abbrev pub IsTold : List UnitState → Live → ℕ → Type 0
IsTold rows live number = (live.number ≡ number) × HasNumber (row_at rows live.row) number

-- a row has the number
abbrev pub IsHad : List UnitState → ℕ → Type 0
IsHad rows number = (i : ℕ) × HasNumber (row_at rows i) number

-- no row has the number
abbrev pub NoneHas : List UnitState → ℕ → Type 0
NoneHas rows number = (i : ℕ) → ¬ HasNumber (row_at rows i) number

-- it is the first of the rows that have the number
pub record IsFirstWith (rows : List UnitState) (number i : ℕ) : Type 0 where
  pub within : i < length rows
  pub has : HasNumber (row_at rows i) number
  pub first : (j : ℕ) → j < i → ¬ HasNumber (row_at rows j) number
