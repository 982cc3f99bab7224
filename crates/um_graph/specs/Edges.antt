-- The relations found, by the numbers of the units, and the order that follows from them.
-- Follows the definitions of dependencies and of the order, which it states by numbers.
-- The contracts of the graph's parts stand on this file.
use Rattle.std.specs.Prelude.{◌≡◌, ℕ, suc, ◌==◌, Bool, false, not, ◌&&◌, List, [], ◌∷◌, ◌++◌, map, Option, Some, None, option_map, slice_get, if◌then◌else◌}
use Rattle.std.specs.BTreeMap.{IsOrdered}
use Rattle.std.specs.Cmp.Lexicographic.{slice_cmp}
use Rattle.std.specs.List.{flat_map}
use Rattle.std.specs.Ordering.{nat_cmp}
use Rattle.std.specs.Str.{bytes_eq}
use Rattle.um_model.specs.Dependencies.{loadable_of}
use Rattle.um_model.specs.Names.{is_target}
use Rattle.um_model.specs.Units.{LoadedUnit}
use Rattle.um_model.specs.declared.dependencies.DependencyKind.TheVariants as kinds
use Rattle.um_unit.specs.View.{loading_of}
use Rattle.um_unit.specs.declared.loaded.Loading.{Loading}
use Rattle.um_graph.specs.Kinds.{after_bit, before_bit, bit_of, has, inverse_bit_of}
use Rattle.um_graph.specs.Known.{Loaded}
use Rattle.um_graph.specs.Rows.{AreRows, Bond, found_or_new}
use Rattle.um_graph.specs.declared.units.Pair.{Pair}
use Rattle.um_graph.specs.declared.told.Link.{Link}
use Rattle.um_graph.specs.declared.told.Link.TheVariants.{Depends, Declared, Ending}
use Rattle.um_graph.specs.declared.told.Told.{Told}
use Rattle.um_graph.specs.declared.units.Edge.{Edge}
use Rattle.um_graph.specs.declared.units.Unit.{Unit}

-- a unit without its row
abbrev pub unit_seen : Unit → List ℕ × Loading
unit_seen u = (u.name, u.loading)

abbrev pub names_of : List Unit → List (List ℕ)
names_of units = map (λ u. u.name) units

-- the place of a name
abbrev pub number_in : List (List ℕ) → List ℕ → Option ℕ
number_in [] x = None
number_in (name ∷ names) x = if bytes_eq name x then Some 0 else option_map suc (number_in names x)

-- ---- edges

abbrev pub edge : Link → ℕ → ℕ → Edge
edge link from to = record { link = link; from = from; to = to }

-- two units, where both are known
abbrev pub edge_between : Link → Option ℕ → Option ℕ → List Edge
edge_between link None to = []
edge_between link (Some from) None = []
edge_between link (Some from) (Some to) = if from == to then [] else edge link from to ∷ []

abbrev pub edge_seen : List (List ℕ) → Told → List Edge
edge_seen names t = edge_between t.link (number_in names t.from) (number_in names t.to)

-- ---- the order that follows

-- it can be loaded, and says that it has no default dependencies
abbrev pub declines_by : Option LoadedUnit → Bool
declines_by None = false
declines_by (Some l) = not l.settings.dependencies.default_dependencies

abbrev pub declines : Unit → Bool
declines u = declines_by (loadable_of (loading_of u.loading))

-- the first is a target that isn't before the second, and neither declines
abbrev pub comes_after_by : Option Unit → Option Unit → ℕ → Bool
comes_after_by None other y = false
comes_after_by (Some u) None y = false
comes_after_by (Some u) (Some v) y =
    is_target u.name && (not (declines u) && (not (declines v) && not (has before_bit (found_or_new u.row.neighbours.entries y).kinds)))

abbrev pub comes_after : List Unit → ℕ → ℕ → Bool
comes_after units x y = comes_after_by (slice_get units x) (slice_get units y) y

abbrev pub pair : ℕ → ℕ → Pair
pair first second = record { first = first; second = second }

-- a target comes after the units that it wants or requires
abbrev pub pulled : List Unit → ℕ → ℕ → List Pair
pulled units x y = if comes_after units x y then pair y x ∷ [] else []

abbrev pub order_by : List Unit → Link → ℕ → ℕ → List Pair
order_by units Ending x y = pair x y ∷ []
order_by units (Depends kinds.Wants) x y = pulled units x y
order_by units (Depends kinds.Requires) x y = pulled units x y
order_by units other x y = []

abbrev pub order_seen : List Unit → Edge → List Pair
order_seen units e = order_by units e.link e.from e.to

-- ---- the bonds of edges and pairs in the rows

abbrev pub bonds_by : Link → ℕ → ℕ → List Bond
bonds_by (Depends kind) x y = (bit_of kind, x, y) ∷ (inverse_bit_of kind, y, x) ∷ []
bonds_by Declared x y = (before_bit, x, y) ∷ (after_bit, y, x) ∷ []
bonds_by Ending x y = []

abbrev pub edge_bonds : Edge → List Bond
edge_bonds e = bonds_by e.link e.from e.to

abbrev pub pair_bonds : Pair → List Bond
pair_bonds p = (before_bit, p.first, p.second) ∷ (after_bit, p.second, p.first) ∷ []

abbrev pub edges_seen : List Unit → List Told → List Edge
edges_seen units told = flat_map (edge_seen (names_of units)) told

-- the units were joined by all relations: first by dependencies and the declared order, then by the order that follows
pub record AreJoined (told : List Told) (old new : List Unit) : Type 0 where
  pub middle : List Unit
  pub same_middle : map unit_seen middle ≡ map unit_seen old
  pub same : map unit_seen new ≡ map unit_seen old
  pub first : AreRows (flat_map edge_bonds (edges_seen old told)) middle
  pub rows : AreRows (flat_map edge_bonds (edges_seen old told) ++ flat_map pair_bonds (flat_map (order_seen middle) (edges_seen old told))) new

-- these are the units that were followed, joined by all relations
pub record AreUnits (loaded : Loaded) (told : List Told) (units : List Unit) : Type 0 where
  pub start : List Unit
  pub seen : map unit_seen start ≡ loaded.entries
  pub ordered : IsOrdered (slice_cmp nat_cmp) loaded
  pub joined : AreJoined told start units
