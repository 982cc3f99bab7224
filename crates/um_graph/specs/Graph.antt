-- A graph: names, loadings and rows by the numbers of the units, and when it is the graph of a tree.
-- Follows the definitions of dependencies: it states them by numbers.
-- Transactions stand on this file.
use Rattle.std.specs.Prelude.{◌≡◌, ◌≢◌, ℕ, ◌<◌, ◌≤◌, ◌↔◌, true, List, [], length, All, AllPairs, Contains, Option, Some, None, option_map, slice_get, find}
use Rattle.um_model.specs.Dependencies.{IsKnown, Depends, Precedes, unit_limit}
use Rattle.um_model.specs.Least.{IsNamedBefore}
use Rattle.um_model.specs.Profiles.{ReadTree}
use Rattle.um_model.specs.Units.{load}
use Rattle.um_model.specs.declared.dependencies.DependencyKind.{DependencyKind}
use Rattle.um_unit.specs.View.{loading_of}
use Rattle.um_unit.specs.declared.loaded.Loading.{Loading}
use Rattle.um_graph.specs.Kinds.{bit_of, inverse_bit_of, before_bit, after_bit, has}
use Rattle.um_graph.specs.declared.row.Neighbour.{Neighbour}

-- for each unit, by its number: its name, the outcome of its look-up, and its neighbours; and the tree's count of units
pub record GraphView : Type 0 where
  pub names : List (List ℕ)
  pub loadings : List Loading
  pub rows : List (List Neighbour)
  pub count : ℕ

-- a neighbour in the list is the unit, and stands to it in this way
pub record Holds (neighbours : List Neighbour) (bit unit : ℕ) : Type 0 where
  pub neighbour : Neighbour
  pub listed : Contains neighbours neighbour
  pub is : neighbour.unit ≡ unit
  pub kind : has bit neighbour.kinds ≡ true

abbrev pub neighbours_or_none : Option (List Neighbour) → List Neighbour
neighbours_or_none None = []
neighbours_or_none (Some neighbours) = neighbours

-- the neighbours of a unit; none past the last one
abbrev pub row_of : List (List Neighbour) → ℕ → List Neighbour
row_of rows x = neighbours_or_none (slice_get rows x)

-- the first neighbour in the row that its unit comes after
abbrev pub first_after : List Neighbour → Option ℕ
first_after row = option_map (λ n. n.unit) (find (λ n. has after_bit n.kinds) row)

-- in the row of x stands y, in this way
abbrev pub Stands : List (List Neighbour) → ℕ → ℕ → ℕ → Type 0
Stands rows bit x y = Holds (row_of rows x) bit y

-- no unit stands in the row twice
abbrev pub AreOnce : List Neighbour → Type 0
AreOnce row = AllPairs (λ (m n : Neighbour). m.unit ≢ n.unit) row

-- the names ascend and aren't too many, each with a row and a loading; each neighbour is one of the units and stands in a row once; and each
-- dependency stands in the rows of both units, as the order does
pub record IsGraph (g : GraphView) : Type 0 where
  pub loaded : length g.loadings ≡ length g.names
  pub rowed : length g.rows ≡ length g.names
  pub sorted : AllPairs IsNamedBefore g.names
  pub few : length g.names ≤ unit_limit
  pub within : All (All (λ (n : Neighbour). n.unit < length g.names)) g.rows
  pub once : (x : ℕ) → AreOnce (row_of g.rows x)
  pub mirrored : (kind : DependencyKind) (i j : ℕ) → Stands g.rows (inverse_bit_of kind) i j ↔ Stands g.rows (bit_of kind) j i
  pub ordered : (i j : ℕ) → Stands g.rows after_bit i j ↔ Stands g.rows before_bit j i

-- the number of the unit is its place among the names
abbrev pub IsNumberOf : GraphView → ℕ → List ℕ → Type 0
IsNumberOf g i x = slice_get g.names i ≡ Some x

-- the graph of the tree and of the units that are named beside it
pub record IsGraphOf (tree : ReadTree) (Extra : List ℕ → Type 0) (g : GraphView) : Type 0 where
  pub known : (x : List ℕ) → Contains g.names x ↔ IsKnown tree Extra x
  pub sorted : AllPairs IsNamedBefore g.names
  pub loaded : (i : ℕ) (x : List ℕ) → IsNumberOf g i x → option_map loading_of (slice_get g.loadings i) ≡ Some (load tree x)
  pub depends : (kind : DependencyKind) (i j : ℕ) (x y : List ℕ) → IsNumberOf g i x → IsNumberOf g j y
      → Stands g.rows (bit_of kind) i j ↔ Depends tree Extra kind x y
  pub needed : (kind : DependencyKind) (i j : ℕ) (x y : List ℕ) → IsNumberOf g i x → IsNumberOf g j y
      → Stands g.rows (inverse_bit_of kind) i j ↔ Depends tree Extra kind y x
  pub before : (i j : ℕ) (x y : List ℕ) → IsNumberOf g i x → IsNumberOf g j y → Stands g.rows before_bit i j ↔ Precedes tree Extra x y
  pub after : (i j : ℕ) (x y : List ℕ) → IsNumberOf g i x → IsNumberOf g j y → Stands g.rows after_bit i j ↔ Precedes tree Extra y x
  pub within : All (All (λ (n : Neighbour). n.unit < length g.names)) g.rows
  pub rowed : length g.rows ≡ length g.names
