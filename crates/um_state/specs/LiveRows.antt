-- Live numbers with their rows, and the row that is recorded for a number.
-- Follows no manual page: it is how the code finds the unit of a process.
-- The contracts of LiveRows and of Finder, and the ghost field of LiveRows, cite it.
use Rattle.std.specs.Prelude.{◌≡◌, ℕ, ◌<◌, ◌==◌, if◌then◌else◌, List, [], ◌∷◌, Option, Some, None, length, slice_index_or}
use Rattle.um_state.specs.declared.live.Live.{Live}

-- the entry at that place; past the last one no number
abbrev pub live_at : List Live → ℕ → Live
live_at list i = slice_index_or list i (record { number = 0; row = 0 })

abbrev pub live_number : List Live → ℕ → ℕ
live_number list i = (live_at list i).number

abbrev pub live_row : List Live → ℕ → ℕ
live_row list i = (live_at list i).row

-- each number is lower than those after it
abbrev pub IsRising : List Live → Type 0
IsRising list = (i j : ℕ) → i < j → j < length list → live_number list i < live_number list j

-- the row of a number; of several the first
abbrev pub told : List Live → ℕ → Option ℕ
told [] number = None
told (live ∷ more) number = if live.number == number then Some live.row else told more number

-- the number stands there, and its row is the recorded one
pub record StandsAt (list : List Live) (number i : ℕ) : Type 0 where
  pub within : i < length list
  pub has : live_number list i ≡ number
  pub told : told list number ≡ Some (live_row list i)
