-- An order of numbered nodes by pairs: a numbering that ascends along every pair, or a cycle of pairs.
use Rattle.std.specs.Prelude.{◌≡◌, ◌≢◌, ◌<◌, ◌≤◌, ℕ, suc, max, List, [], ◌∷◌, length, slice_index, ⊤}
use Rattle.std.specs.List.{All, AllPairs, Contains}
use Rattle.um_model.specs.Order.{IsCycle}

-- one of the pairs puts x before y
abbrev pub Precedes : List (ℕ × ℕ) → ℕ → ℕ → Type 0
Precedes pairs x y = Contains pairs (x, y)

-- the number of nodes, with all that the pairs name: a pair may name a number past the last node, and then they go on to that one
abbrev pub nodes_with : ℕ → List (ℕ × ℕ) → ℕ
nodes_with nodes [] = nodes
nodes_with nodes ((x, y) ∷ pairs) = max (suc (max x y)) (nodes_with nodes pairs)

-- a number for each node, and they ascend wherever one node is before another
pub record IsNumbering (before : ℕ → ℕ → Type 0) (nodes : ℕ) (numbers : List ℕ) : Type 0 where
  pub each : length numbers ≡ nodes
  pub ascends : (x y : ℕ) → before x y → slice_index numbers x < slice_index numbers y

-- none of the list is less than its first
abbrev pub BeginsWithLeast : List ℕ → Type 0
BeginsWithLeast [] = ⊤
BeginsWithLeast (x ∷ xs) = All (λ y. x ≤ y) xs

-- a cycle in which no node stands twice, listed from its least node on
pub record IsLeastFirstCycle (before : ℕ → ℕ → Type 0) (cycle : List ℕ) : Type 0 where
  pub closed : IsCycle before cycle
  pub once : AllPairs (λ x y. x ≢ y) cycle
  pub least : BeginsWithLeast cycle
