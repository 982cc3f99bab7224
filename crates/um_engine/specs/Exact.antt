-- When `Known` is exact, and which rows let go no unit for which the graph was made.
-- Follows no manual page: it is how the engine keeps its knowledge of units.
-- The engine, its steps and the ways back stand on this file.
use Rattle.std.specs.Prelude.{◌≡◌, ◌↔◌, ◌&&◌, ℕ, Bool, false, not, List, Contains}
use Rattle.um_model.specs.Dependencies.{IsKnown}
use Rattle.um_model.specs.Jobs.{has_job}
use Rattle.um_model.specs.Machine.{IsHeld}
use Rattle.um_model.specs.Servable.{IsFew}
use Rattle.um_model.specs.Service.{holds_nothing}
use Rattle.um_graph.specs.Graph.{IsNumberOf}
use Rattle.um_state.specs.declared.row.Row.{Row}
use Rattle.um_engine.specs.Known.{KnownView}
use Rattle.um_engine.specs.Served.{ServedView}

-- the numbered units are just the known ones: those of the loaded tree, and all of which the state holds anything
abbrev pub KnowsJustItsUnits : ServedView → Type 0
KnowsJustItsUnits v = (unit : List ℕ) → Contains v.known.graph.names unit ↔ IsKnown v.state.loaded (IsHeld v.state) unit

-- `Known` is exact: the numbered units are just the known ones, the state holds something of each unit for which the graph was made, and no
-- more units are known for the state than may be
pub record IsExact (v : ServedView) : Type 0 where
  pub just : KnowsJustItsUnits v
  pub made : (unit : List ℕ) → Contains v.known.extra unit → IsHeld v.state unit
  pub few : IsFew v.state

-- `Known` is exact, if no more units are known for the state than may be
abbrev pub IsExactIfFew : ServedView → Type 0
IsExactIfFew v = IsFew v.state → IsExact v

-- by the row nothing is held of its unit
abbrev pub holds_none : Row → Bool
holds_none row = holds_nothing row.unit && not (has_job row.jobs)

-- if the row is that of a unit for which the graph was made, it holds something of it
abbrev pub LetsNoneGo : KnownView → Row → Type 0
LetsNoneGo k row = (unit : List ℕ) → IsNumberOf k.graph row.number unit → Contains k.extra unit → holds_none row ≡ false
