-- When a graph serves for a state: it is the graph of the loaded tree, and each unit of which the state holds something is one of its units.
-- Follows no manual page: it is how the engine keeps its knowledge of units.
-- Every step of the engine stands on this file.
use Rattle.std.specs.Prelude.{List, ℕ, Contains}
use Rattle.um_model.specs.Machine.{State, IsHeld}
use Rattle.um_graph.specs.Graph.{GraphView, IsGraph, IsGraphOf}

-- the graph was made for the state's loaded tree and some units beside it, and the state holds units of the graph alone
pub record Serves (g : GraphView) (s : State) : Type 0 where
  pub extra : List (List ℕ)
  pub graph : IsGraph g
  pub of : IsGraphOf s.loaded (Contains extra) g
  pub held : (unit : List ℕ) → IsHeld s unit → Contains g.names unit
