-- Which units fall with one that came to rest, as the code goes from one to the next by the rows of the graph; and their changes.
-- Follows the definition of the units that fall with a unit: it states it by numbers.
-- The events of a unit, with all units that fall with it, stand on this file.
use Rattle.std.specs.Prelude.{◌≡◌, ◌≢◌, ℕ, suc, ◌==◌, ◌&&◌, ◌++◌, Bool, false, if◌then◌else◌, List, [], ◌∷◌, Option, Some, None, map, slice_get}
use Rattle.std.specs.List.{list_any}
use Rattle.um_model.specs.Machine.{State}
use Rattle.um_model.specs.Transitions.{comes_to_rest}
use Rattle.um_model.specs.Service.{active_state_of, state_of_unit}
use Rattle.um_model.specs.Transitions.{is_going}
use Rattle.um_model.specs.declared.dependencies.DependencyKind.TheVariants.{BindsTo}
use Rattle.um_model.specs.declared.service.SubState.{SubState}
use Rattle.um_graph.specs.Graph.{GraphView, IsNumberOf, row_of}
use Rattle.um_graph.specs.Kinds.{has, inverse_bit_of}
use Rattle.um_graph.specs.declared.row.Neighbour.{Neighbour}

-- the sub state of the unit
abbrev pub sub_of : State → List ℕ → SubState
sub_of s unit = (state_of_unit s.units unit).sub

-- the unit is active or activating
abbrev pub goes : State → List ℕ → Bool
goes s unit = is_going (active_state_of (sub_of s unit))

-- the neighbour is bound to the unit in whose row it stands
abbrev pub binds : Neighbour → Bool
binds n = has (inverse_bit_of BindsTo) n.kinds

-- this neighbour is the unit with the number, and bound to the one in whose row it stands
abbrev pub is_bound_as : ℕ → Neighbour → Bool
is_bound_as unit n = (n.unit == unit) && binds n

-- the unit with the number is bound to the one of the row
abbrev pub is_bound : List Neighbour → ℕ → Bool
is_bound row unit = list_any (is_bound_as unit) row

-- of the units with these names, numbered from this number on, those that are bound to the one of the row and are active or activating
abbrev pub falling_from : State → List Neighbour → ℕ → List (List ℕ) → List ℕ
falling_from s row unit [] = []
falling_from s row unit (name ∷ names) =
    if is_bound row unit && goes s name then unit ∷ falling_from s row (suc unit) names else falling_from s row (suc unit) names

-- the units of the graph that fall with the one of this name and number, which stood so before
abbrev pub falling : GraphView → State → SubState → List ℕ → ℕ → List ℕ
falling g s before name unit = if comes_to_rest before (sub_of s name) then falling_from s (row_of g.rows unit) 0 g.names else []

-- those come before the others in the list
abbrev pub AddsFalling : GraphView → State → SubState → List ℕ → List ℕ → List ℕ → Type 0
AddsFalling g s before name list after = (unit : ℕ) → IsNumberOf g unit name → after ≡ falling g s before name unit ++ list

-- these are the names of the units with these numbers
abbrev pub AreNamed : GraphView → List ℕ → List (List ℕ) → Type 0
AreNamed g units names = map (slice_get g.names) units ≡ map Some names

-- all units have the same sub states as before
abbrev pub KeepsSubs : State → State → Type 0
KeepsSubs s v = (unit : List ℕ) → sub_of v unit ≡ sub_of s unit

-- the unit isn't active or activating then, and keeps its sub state if it wasn't before; all others keep theirs
pub record StopsOne (unit : List ℕ) (s v : State) : Type 0 where
  pub down : goes v unit ≡ false
  pub stays : goes s unit ≡ false → sub_of v unit ≡ sub_of s unit
  pub others : (x : List ℕ) → x ≢ unit → sub_of v x ≡ sub_of s x

-- the same for the unit of this name; None changes nothing
abbrev pub StopsIf : Option (List ℕ) → State → List ℕ → State → List ℕ → Type 0
StopsIf None s list v after = (v ≡ s) × (after ≡ list)
StopsIf (Some name) s list v after = StopsOne name s v
