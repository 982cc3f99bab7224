-- What the engine knows of a tree's units: the graph, the units for which it was made, and those known without the entries under `run/`.
-- Follows no manual page: it is how the engine keeps its knowledge of units.
-- Commands and the room that a state takes stand on this file.
use Rattle.std.specs.Prelude.{◌≡◌, ◌⊎◌, ◌↔◌, ℕ, Bool, true, false, List, Contains, Option, Some, None, length, slice_get, slice_index_or}
use Rattle.um_model.specs.Dependencies.{CountsFor, IsKnown, KnowsTooMany}
use Rattle.um_model.specs.Machine.{State, IsHeld, IsHeldOr}
use Rattle.um_model.specs.Profiles.{ReadTree, lasting_tree}
use Rattle.um_graph.specs.Graph.{GraphView, IsGraph, IsGraphOf}

-- the units that count beside those that a tree names: the held ones, and one that a command names
abbrev pub IsHeldWith : State → Option (List ℕ) → List ℕ → Type 0
IsHeldWith s None = IsHeld s
IsHeldWith s (Some named) = IsHeldOr s named

-- too many units would be known by the tree, or by the tree without its entries under `run/`
abbrev pub IsFull : ReadTree → (List ℕ → Type 0) → Type 0
IsFull tree Extra = KnowsTooMany tree Extra ⊎ KnowsTooMany (lasting_tree tree) Extra

-- the graph is exactly that of the tree and these units, and it has the tree's count of units; and these aren't too many
pub record IsGraphFor (tree : ReadTree) (Extra : List ℕ → Type 0) (g : GraphView) : Type 0 where
  pub graph : IsGraph g
  pub of : IsGraphOf tree Extra g
  pub count : CountsFor tree Extra g.count
  pub few : ¬ IsFull tree Extra

-- the graph, the units for which it was made, and those known without the entries under `run/`
pub record KnownView : Type 0 where
  pub graph : GraphView
  pub extra : List (List ℕ)
  pub lasting : List (List ℕ)

-- these units are known by the tree without its entries under `run/`; None means that the tree has no such entry
abbrev pub AreLasting : ReadTree → List (List ℕ) → Option (List (List ℕ)) → Type 0
AreLasting tree extra None = lasting_tree tree ≡ tree
AreLasting tree extra (Some names) = (unit : List ℕ) → Contains names unit ↔ IsKnown (lasting_tree tree) (Contains extra) unit

-- these numbers include that of each unit of these names that isn't known without the entries under `run/`
abbrev pub ArePassing : (names lasting : List (List ℕ)) → List ℕ → Type 0
ArePassing names lasting passing = (i : ℕ) (unit : List ℕ) → slice_get names i ≡ Some unit → Contains lasting unit ⊎ Contains passing i

-- by number: whether the unit of these names is one for which the graph was made
pub record AreMarked (names extra : List (List ℕ)) (marks : List Bool) : Type 0 where
  pub long : length marks ≡ length names
  pub each : (i : ℕ) (unit : List ℕ) → slice_get names i ≡ Some unit → (slice_index_or marks i false ≡ true) ↔ Contains extra unit

-- the graph was made for the state's loaded tree, it is recorded which of its units are known without the entries under `run/`, and the
-- state holds only units of the graph
pub record KnowsFor (k : KnownView) (s : State) : Type 0 where
  pub made : IsGraphFor s.loaded (Contains k.extra) k.graph
  pub lasting : (unit : List ℕ) → Contains k.lasting unit ↔ IsKnown (lasting_tree s.loaded) (Contains k.extra) unit
  pub held : (unit : List ℕ) → IsHeld s unit → Contains k.graph.names unit
