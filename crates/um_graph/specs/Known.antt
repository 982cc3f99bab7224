-- The search for known units: names that were followed, names that are left, and the relations found.
-- Follows the definition of known units, a least set, as a work list finds it.
-- The contracts of the search stand on this file.
use Rattle.std.specs.Prelude.{◌≡◌, ◌⊎◌, ℕ, true, List, [], ◌∷◌, ◌++◌, Contains, Option, Some, None, is_some, if◌then◌else◌}
use Rattle.std.specs.BTreeMap.{BTreeMap, get}
use Rattle.std.specs.Cmp.Lexicographic.{slice_cmp}
use Rattle.std.specs.FinMap as map
use Rattle.std.specs.List.{flat_map}
use Rattle.std.specs.Ordering.{nat_cmp}
use Rattle.um_model.specs.Dependencies.{IsKnown, IsNamed, KnowsSoMany, KnowsTooMany}
use Rattle.um_model.specs.Profiles.{ReadTree, lasting_tree}
use Rattle.um_model.specs.Tree.{Tree}
use Rattle.um_model.specs.Units.{load}
use Rattle.um_unit.specs.View.{loading_of}
use Rattle.um_unit.specs.declared.loaded.Loading.{Loading}
use Rattle.um_graph.specs.Tells.{entry_told, told_in}
use Rattle.um_graph.specs.declared.told.Told.{Told}

-- the outcome of the look-up for each name that was followed
abbrev pub Loaded : Type 0
Loaded = BTreeMap (List ℕ) Loading

abbrev pub loading_at : Loaded → List ℕ → Option Loading
loading_at loaded x = get (slice_cmp nat_cmp) loaded x

abbrev pub IsFollowed : Loaded → List ℕ → Type 0
IsFollowed loaded x = is_some (loading_at loaded x) ≡ true

-- the name was followed, or is left to be
abbrev pub IsMet : Loaded → List (List ℕ) → List ℕ → Type 0
IsMet loaded left x = IsFollowed loaded x ⊎ Contains left x

-- the name, unless it was followed
abbrev pub unless_followed : Loaded → List ℕ → List (List ℕ)
unless_followed loaded x = if is_some (loading_at loaded x) then [] else x ∷ []

-- both names of a relation, unless they were followed
abbrev pub ends_left : Loaded → Told → List (List ℕ)
ends_left loaded t = unless_followed loaded t.from ++ unless_followed loaded t.to

-- the relations from the links of the tree
abbrev pub links_told : Tree → List Told
links_told tree = flat_map (entry_told tree) (map.entries tree)

-- the relation comes from a known name or from a link
pub data IsTold (tree : ReadTree) (extra : List (List ℕ)) (t : Told) : Type 0 where
  by_unit : (a : List ℕ) → IsKnown tree (Contains extra) a → Contains (told_in tree a) t → IsTold tree extra t
  by_link : Contains (links_told tree.entries) t → IsTold tree extra t

-- the search is under way: nothing is forgotten, and nothing too much
pub record IsUnderWay (tree : ReadTree) (extra : List (List ℕ)) (loaded : Loaded) (left : List (List ℕ)) (told : List Told) : Type 0 where
  pub loads : (x : List ℕ) (l : Loading) → loading_at loaded x ≡ Some l → loading_of l ≡ load tree x
  pub known : (x : List ℕ) → IsMet loaded left x → IsKnown tree (Contains extra) x
  pub named : (x : List ℕ) → IsNamed tree (Contains extra) x → IsMet loaded left x
  pub sound : (t : Told) → Contains told t → IsTold tree extra t
  pub linked : (t : Told) → Contains (links_told tree.entries) t → Contains told t
  pub whole : (x : List ℕ) → IsFollowed loaded x → (t : Told) → Contains (told_in tree x) t → Contains told t
  pub ends : (t : Told) → Contains told t → IsMet loaded left t.from × IsMet loaded left t.to

-- exactly this number of units is known by the tree without its entries under `run/`, and not too many; None if it has no such entries
abbrev pub CountsLasting : ReadTree → List (List ℕ) → Option ℕ → Type 0
CountsLasting tree extra None = lasting_tree tree ≡ tree
CountsLasting tree extra (Some count) = KnowsSoMany (lasting_tree tree) (Contains extra) count × ¬ KnowsTooMany (lasting_tree tree) (Contains extra)

-- names were left out that had been followed, and no other
pub record LeavesOut (loaded : Loaded) (old new : List (List ℕ)) : Type 0 where
  pub fewer : (x : List ℕ) → Contains new x → Contains old x
  pub kept : (x : List ℕ) → Contains old x → IsMet loaded new x
