-- The numbers of live processes, and those of which more is to be known.
-- No manual page has this: processes under numbers are the project's own.
-- The running manager stands on this file.
use Rattle.std.specs.Prelude.{◌≡◌, ◌==◌, ◌<◌, ◌≤◌, ℕ, List, [], ◌∷◌, Bool, true, length, AllPairs}
use Rattle.std.specs.List.{list_any, list_all}
use Rattle.um_model.specs.Machine.{IsProcessOf}
use Rattle.um_model.specs.Service.{ByUnit, state_of_unit}
use Rattle.um_model.specs.StateSpellings.{numbers_in, are_distinct}
use Rattle.um_model.specs.declared.service.SubState.{SubState}
use Rattle.um_model.specs.declared.service.UnitState.{UnitState}

-- the number stands in the list
abbrev pub has : ℕ → List ℕ → Bool
has n ns = list_any (λ m. m == n) ns

-- it is the number of a live process
abbrev pub is_live : ByUnit UnitState → ℕ → Bool
is_live units n = has n (numbers_in units)

-- the numbers of the live processes, ascending
pub record AreLive (units : ByUnit UnitState) (numbers : List ℕ) : Type 0 where
  pub each : (n : ℕ) → has n numbers ≡ is_live units n
  pub ascending : AllPairs (λ m n. m < n) numbers

-- the most numbers that are live: of 1,024 known units two each
abbrev pub most_live : ℕ
most_live = 2048

-- no more than that are live
abbrev pub HasFewLive : ByUnit UnitState → Type 0
HasFewLive units = (numbers : List ℕ) → are_distinct numbers ≡ true → list_all (is_live units) numbers ≡ true → length numbers ≤ most_live

-- the number is that of a live process whose unit is in this state
pub record IsIn (units : ByUnit UnitState) (sub : SubState) (number : ℕ) : Type 0 where
  pub unit : List ℕ
  pub process : IsProcessOf units number unit
  pub state : (state_of_unit units unit).sub ≡ sub

-- of these numbers those whose units are in this state, in their order
pub data AreIn (units : ByUnit UnitState) (sub : SubState) : (numbers chosen : List ℕ) → Type 0 where
  none : AreIn units sub [] []
  chosen_next : {number : ℕ} {numbers chosen : List ℕ} → IsIn units sub number → AreIn units sub numbers chosen
      → AreIn units sub (number ∷ numbers) (number ∷ chosen)
  passed_over : {number : ℕ} {numbers chosen : List ℕ} → ¬ IsIn units sub number → AreIn units sub numbers chosen
      → AreIn units sub (number ∷ numbers) chosen
