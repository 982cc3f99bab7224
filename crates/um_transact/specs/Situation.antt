-- Demands as the rows of a graph give them, over the numbers of units.
-- Follows the definitions of demands: it states them by numbers.
-- The search for demands stands on this file.
use Rattle.std.specs.Bool.{Decides}
use Rattle.std.specs.Prelude.{◌≡◌, ◌⊎◌, ℕ, ◌<◌, ◌||◌, ◌&&◌, Bool, true, false, not, List, Contains, Option, None, Some, is_some, length, slice_index_or}
use Rattle.um_model.specs.Demands.{IsStarting}
use Rattle.um_model.specs.Dependencies.{loadable_of}
use Rattle.um_model.specs.Reached.{Reached}
use Rattle.um_model.specs.declared.dependencies.Demand.{Demand}
use Rattle.um_model.specs.declared.dependencies.Demand.TheVariants.{Start, Stop}
use Rattle.um_model.specs.declared.dependencies.DependencyKind.TheVariants.{Wants}
use Rattle.um_model.specs.declared.service.ActiveState.{ActiveState}
use Rattle.um_unit.specs.View.{loading_of}
use Rattle.um_unit.specs.declared.loaded.Loading.{Loading}
use Rattle.um_unit.specs.declared.loaded.Loading.TheVariants.{NotFound}
use Rattle.um_graph.specs.Graph.{GraphView, row_of}
use Rattle.um_graph.specs.Kinds.{has, bit_of}
use Rattle.um_graph.specs.declared.row.Neighbour.{Neighbour}
use Rattle.um_transact.specs.Walk.{Demanded, brought, marks_at}
use Rattle.um_transact.specs.declared.walk.Marks.{Marks}

abbrev pub is_starting : Demand → Bool
is_starting Stop = false
is_starting other = true

abbrev pub loading_at : GraphView → ℕ → Loading
loading_at g u = slice_index_or g.loadings u NotFound

abbrev pub is_loadable_at : GraphView → ℕ → Bool
is_loadable_at g u = is_some (loadable_of (loading_of (loading_at g u)))

-- a demand brings another: it is found in the row of its unit
abbrev pub LeadsBy : GraphView → List ActiveState → Demanded → Demanded → Type 0
LeadsBy g activity p q = Contains (brought activity p.0 (row_of g.rows p.1)) q

abbrev pub IsRequiredBy : GraphView → List ActiveState → Demanded → Demanded → Type 0
IsRequiredBy g activity root = Reached (λ p. p ≡ root) (LeadsBy g activity)

-- a unit can be started along
pub record IsStartableBy (g : GraphView) (activity : List ActiveState) (w : ℕ) : Type 0 where
  pub loadable : (y : ℕ) → IsRequiredBy g activity (Start, w) (Start, y) → is_loadable_at g y ≡ true
  pub apart : (y : ℕ) → IsRequiredBy g activity (Start, w) (Start, y) → ¬ IsRequiredBy g activity (Start, w) (Stop, y)

-- the recorded test of a unit: whether it can be started along, or None if it wasn't tested
abbrev pub tested_at : List (Option Bool) → ℕ → Option Bool
tested_at tested u = slice_index_or tested u None

-- each unit has its place, and its recorded test is true
pub record AreTested (g : GraphView) (activity : List ActiveState) (tested : List (Option Bool)) : Type 0 where
  pub long : length tested ≡ length g.names
  pub told : (u : ℕ) (b : Bool) → tested_at tested u ≡ Some b → Decides b (IsStartableBy g activity u)

-- a unit that is started or restarted wants a neighbour, which can be started along
pub record WantsBy (g : GraphView) (activity : List ActiveState) (p q : Demanded) : Type 0 where
  pub starting : IsStarting p.0
  pub neighbour : Neighbour
  pub listed : Contains (row_of g.rows p.1) neighbour
  pub wanted : has (bit_of Wants) neighbour.kinds ≡ true
  pub startable : IsStartableBy g activity neighbour.unit
  pub is : (Start, neighbour.unit) ≡ q

-- a demand brings another, or the start of a wanted unit
abbrev pub LeadsAlongBy : GraphView → List ActiveState → Demanded → Demanded → Type 0
LeadsAlongBy g activity p q = LeadsBy g activity p q ⊎ WantsBy g activity p q

abbrev pub IsDemandedBy : GraphView → List ActiveState → Demanded → Demanded → Type 0
IsDemandedBy g activity root = Reached (λ p. p ≡ root) (LeadsAlongBy g activity)

-- if the unit is started, it can be loaded and isn't stopped
abbrev pub is_fine : Marks → Bool → Bool
is_fine m loadable = not m.start || (loadable && not m.stop)

abbrev pub is_fine_at : GraphView → List Marks → ℕ → Bool
is_fine_at g marks u = is_fine (marks_at marks u) (is_loadable_at g u)

abbrev pub AreFine : GraphView → List Marks → ℕ → Type 0
AreFine g marks n = (u : ℕ) → u < n → is_fine_at g marks u ≡ true

-- the start of the neighbour is added if the neighbour is wanted and can be started along
pub record AddsWanted (g : GraphView) (activity : List ActiveState) (n : Neighbour) (old new : List Demanded) : Type 0 where
  pub kept : (q : Demanded) → Contains old q → Contains new q
  pub added : has (bit_of Wants) n.kinds ≡ true → IsStartableBy g activity n.unit → Contains new (Start, n.unit)
  pub only : (q : Demanded) → Contains new q → Contains old q ⊎ (((Start, n.unit) ≡ q) × (has (bit_of Wants) n.kinds ≡ true) × IsStartableBy g activity n.unit)
