-- Rows of units, few of which have changed: the changed ones in a list, and for each number its place in the list.
-- Follows no manual page: it is how the rows of a step are held without a copy of all of them.
-- The rows of units in work stand on this file.
use Rattle.std.specs.Prelude.{◌≡◌, ◌<◌, ◌≤◌, ℕ, zero, suc, List, [], ◌∷◌, length, map, slice_index_or}
use Rattle.um_model.specs.declared.service.UnitState.{UnitState}
use Rattle.um_state.specs.Finding.{row_at}
use Rattle.um_state.specs.declared.overlay.ChangedRow.{ChangedRow}

-- the rows as they were and as they are now
pub record OverlayView : Type 0 where
  pub was : List UnitState
  pub now : List UnitState

-- how their units stand
abbrev pub units_in : List ChangedRow → List UnitState
units_in changed = map (λ (r : ChangedRow). r.unit) changed

-- where the row with this number stands in the list, plus one; 0 if the row hasn't changed
abbrev pub place_at : List ℕ → ℕ → ℕ
place_at places i = slice_index_or places i 0

-- the row that stands there
abbrev pub row_placed : UnitState → List UnitState → ℕ → UnitState
row_placed row changed zero = row
row_placed row changed (suc k) = row_at changed k

-- the rows as they are now
abbrev pub laid_over : List UnitState → List ℕ → List UnitState → List UnitState
laid_over [] places changed = []
laid_over (row ∷ rows) [] changed = row ∷ rows
laid_over (row ∷ rows) (place ∷ places) changed = row_placed row changed place ∷ laid_over rows places changed

-- the number of rows for which another one is in the list
abbrev pub placed : List ℕ → ℕ
placed [] = 0
placed (zero ∷ places) = placed places
placed (suc k ∷ places) = suc (placed places)

-- in this number of rows, each row with a place has it alone, and there is room for the others
pub record AreLaid (rows : ℕ) (places : List ℕ) (changed most : ℕ) : Type 0 where
  pub len : length places ≡ rows
  pub within : (i k : ℕ) → place_at places i ≡ suc k → k < changed
  pub apart : (i j k : ℕ) → place_at places i ≡ suc k → place_at places j ≡ suc k → j ≡ i
  pub count : placed places ≡ changed
  pub room : rows ≤ most
