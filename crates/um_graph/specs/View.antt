-- The code's graph as the value that the definitions use.
-- Follows no manual page: it is how the code keeps it.
-- The contracts of the graph stand on this file.
use Rattle.std.specs.Prelude.{ℕ, List, map}
use Rattle.std.specs.Map.{values_of}
use Rattle.um_graph.specs.Graph.{GraphView}
use Rattle.um_graph.specs.declared.units.Unit.{Unit}

-- the units by their numbers, and the tree's count of units
abbrev pub graph_of : List Unit → ℕ → GraphView
graph_of units count = record {
  names = map (λ u. u.name) units;
  loadings = map (λ u. u.loading) units;
  rows = map (λ u. values_of u.row.neighbours.entries) units;
  count = count;
}
