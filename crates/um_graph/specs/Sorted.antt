-- Rows in the order of their numbers.
-- Follows no manual page: it is how a graph keeps its rows.
-- Who goes through a row by name stands on this file.
use Rattle.std.specs.Prelude.{◌≡◌, ◌≢◌, ◌<◌, ℕ, List, AllPairs}
use Rattle.std.specs.Map.{values_of}
use Rattle.um_graph.specs.Graph.{GraphView, IsGraph, row_of}
use Rattle.um_graph.specs.Rows.{AreRows, Bond, entries_of}
use Rattle.um_graph.specs.declared.row.Neighbour.{Neighbour}
use Rattle.um_graph.specs.declared.units.Unit.{Unit}

-- the neighbours stand in the order of their numbers
abbrev pub IsAscending : List Neighbour → Type 0
IsAscending row = AllPairs (λ (m n : Neighbour). m.unit < n.unit) row

-- it is a graph, and its rows stand in the order of their numbers
pub record IsSortedGraph (g : GraphView) : Type 0 where
  pub graph : IsGraph g
  pub ascends : (x : ℕ) → IsAscending (row_of g.rows x)

-- the row of x stands in the order of its numbers
abbrev pub IsSortedAt : List Unit → ℕ → Type 0
IsSortedAt units x = IsAscending (values_of (entries_of units x))

-- so does each row
abbrev pub AreSorted : List Unit → Type 0
AreSorted units = (x : ℕ) → IsSortedAt units x

-- the row of x stands in the order of its numbers then, all others as before, and the rows hold the same bonds
pub record SortsRow (bonds : List Bond) (x : ℕ) (old new : List Unit) : Type 0 where
  pub rows : AreRows bonds new
  pub sorted : IsSortedAt new x
  pub others : (z : ℕ) → z ≢ x → entries_of new z ≡ entries_of old z
