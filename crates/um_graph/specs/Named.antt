-- A graph's units by their names, and the items for them in lists in the order of the names.
-- Follows no manual page: it turns numbers into names.
-- The jobs of a graph's units and transactions stand on this file.
use Rattle.std.specs.Prelude.{ℕ, if◌then◌else◌, List, [], ◌∷◌, slice_index_or}
use Rattle.std.specs.Str.{bytes_eq}
use Rattle.um_graph.specs.Graph.{GraphView, IsNumberOf, Stands}

-- the name of the unit with this number
abbrev pub name_at : List (List ℕ) → ℕ → List ℕ
name_at names u = slice_index_or names u []

-- x and y are units of the graph, and y stands in the row of x in this way
pub record Joins (g : GraphView) (bit : ℕ) (x y : List ℕ) : Type 0 where
  pub from : ℕ
  pub to : ℕ
  pub first : IsNumberOf g from x
  pub second : IsNumberOf g to y
  pub stands : Stands g.rows bit from to

-- of the items in the order of the names, the one for this name
abbrev pub item_for : {X : Type 0} → X → List (List ℕ) → List X → List ℕ → X
item_for none [] xs name = none
item_for none (n ∷ ns) [] name = none
item_for none (n ∷ ns) (x ∷ xs) name = if bytes_eq n name then x else item_for none ns xs name
