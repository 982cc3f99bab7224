-- A state with its `Known`, and the standing that both make.
-- Follows no manual page: it is how the engine keeps its knowledge of units.
-- The engine, its steps and the ways back stand on this file.
use Rattle.std.specs.Prelude.{◌≡◌, ◌+◌, ℕ, true, List, []}
use Rattle.um_model.specs.Machine.{State}
use Rattle.um_model.specs.Standing.{Standing}
use Rattle.um_model.specs.Weight.{tree_weight}
use Rattle.um_falling.specs.Work.{WorkView}
use Rattle.um_graph.specs.Graph.{GraphView}
use Rattle.um_state.specs.View.{state_of}
use Rattle.um_engine.specs.Known.{KnownView}

pub record ServedView : Type 0 where
  pub state : State
  pub known : KnownView

-- units and pending jobs are both numbered by these names
abbrev pub IsNumberedBy : List (List ℕ) → Standing → Type 0
IsNumberedBy names s = (s.common ≡ true) × (s.names ≡ names)

-- the numbered names are those of the graph
abbrev pub standing_of : ServedView → Standing
standing_of v = record { state = v.state; common = true; names = v.known.graph.names }

-- the weight of both trees of a state
abbrev pub trees_weight : State → ℕ
trees_weight s = tree_weight s.tree + tree_weight s.loaded.entries

-- a step in work that begins in this standing, at the moment
abbrev pub begun_at : Standing → GraphView → ℕ → WorkView
begun_at s g moment = record { graph = g; base = s; now = s; moment = moment; actions = [] }

-- the step in work goes over `Known` and began in the served state, whose trees it leaves as they are
pub record WorksOn (v : ServedView) (w : WorkView) : Type 0 where
  pub graph : w.graph ≡ v.known.graph
  pub base : w.base ≡ standing_of v
  pub tree : (state_of w.now).tree ≡ v.state.tree
  pub loaded : (state_of w.now).loaded ≡ v.state.loaded
