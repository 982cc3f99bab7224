-- A step in work: the graph, where it began and how far it has come, the moment, and the actions so far.
-- Follows no manual page: it is how the engine goes from one state to the next.
-- All events of units stand on this file.
use Rattle.std.specs.Prelude.{◌≡◌, ℕ, List}
use Rattle.um_graph.specs.Graph.{GraphView}
use Rattle.um_model.specs.Machine.{State}
use Rattle.um_model.specs.Service.{Action}
use Rattle.um_model.specs.Standing.{Standing}
use Rattle.um_state.specs.View.{state_of}
use Rattle.um_falling.specs.Carrying.{Adds}
use Rattle.um_falling.specs.Over.{Serves}

-- the graph, the standing from which the work began and the one it has reached, the moment, and the actions so far
pub record WorkView : Type 0 where
  pub graph : GraphView
  pub base : Standing
  pub now : Standing
  pub moment : ℕ
  pub actions : List Action

-- the graph, the beginning and the moment stay, and the graph still serves
pub record Keeps (v w : WorkView) : Type 0 where
  pub graph : w.graph ≡ v.graph
  pub base : w.base ≡ v.base
  pub moment : w.moment ≡ v.moment
  pub serves : Serves v.graph (state_of v.now) → Serves w.graph (state_of w.now)

-- the relation leads to the new state, and its actions follow those that were there
abbrev pub Goes : (List Action → State → Type 0) → WorkView → WorkView → Type 0
Goes Relation v w = Adds Relation v.actions (state_of w.now) w.actions
