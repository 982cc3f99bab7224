-- A property that each change of a unit by itself keeps is kept with all units that fall with it, and by resets.
use Rattle.std.proofs.Common.{ℕ, List, [], ◌∷◌, ◌++◌}
use Rattle.um_model.specs.Machine.{State, Carries, FallDown, all_told, told_next, Happens, AreReset, all_reset, reset_next}
use Rattle.um_model.specs.Service.{Action}
use Rattle.um_model.specs.declared.transition.UnitEvent.{UnitEvent}
use Rattle.um_model.specs.declared.transition.UnitEvent.TheVariants.{BoundStop, Reset}

-- P: a property from one state to another over these actions; it holds over none, over both of two, and over an event of one unit
module _ (t : ℕ) (P : State → List Action → State → Type 0) (none : (s : State) → P s [] s)
    (both : (s u v : State) (first more : List Action) → P s first u → P u more v → P s (first ++ more) v)
    (one : (unit : List ℕ) (event : UnitEvent) (s : State) (actions : List Action) (v : State) → Carries t unit event s actions v → P s actions v) where
  -- it holds over bound stops of units
  pub over_falls : (units : List (List ℕ)) (s : State) (actions : List Action) (v : State) → FallDown t units s actions v → P s actions v
  over_falls units s actions v all_told = none s
  over_falls (unit ∷ units) s actions v (told_next {falling = falling} {u = u} {first = first} {more = more} carries falls later) =
      both s u v first more (one unit BoundStop s first u carries) (over_falls (falling ++ units) u more v later)

  -- and over an event of a unit
  pub over_happening : (unit : List ℕ) (event : UnitEvent) (s : State) (actions : List Action) (v : State) → Happens t unit event s actions v → P s actions v
  over_happening unit event s actions v (Happens.happens {falling = falling} {u = u} {first = first} {more = more} carries falls later) =
      both s u v first more (one unit event s first u carries) (over_falls falling u more v later)

  -- and over failures that are forgotten
  pub over_resets : (units : List (List ℕ)) (s : State) (actions : List Action) (v : State) → AreReset t units s actions v → P s actions v
  over_resets units s actions v all_reset = none s
  over_resets (unit ∷ units) s actions v (reset_next {u = u} {first = first} {more = more} forgets later) =
      both s u v first more (over_happening unit Reset s first u forgets) (over_resets units u more v later)
