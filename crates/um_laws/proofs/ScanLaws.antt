-- The unit of a process number, as a scan by the names of units finds it.
use Rattle.std.proofs.Common.{ℕ, ◌≡◌, true, List, Option, Some, None, is_some, unwrap_or, refl, inl, inr}
use Rattle.std.specs.FinMap as map
use Rattle.um_model.specs.Service.{ByUnit, state_of_unit, dead_unit}
use Rattle.um_model.specs.Transitions.{HasNumber}
use Rattle.um_model.specs.declared.service.UnitState.{UnitState}

-- ---- process numbers

-- a unit that has a number is held
number_is_held : (o : Option UnitState) (number : ℕ) → HasNumber (unwrap_or o dead_unit) number → is_some o ≡ true
number_is_held (Some u) number has = refl
number_is_held None number (inl e) = cc
number_is_held None number (inr e) = cc

pub held_with_number : (units : ByUnit UnitState) (unit : List ℕ) (number : ℕ) → HasNumber (state_of_unit units unit) number → is_some (map.get units unit) ≡ true
held_with_number units unit number has = number_is_held (map.get units unit) number has
