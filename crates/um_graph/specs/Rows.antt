-- The rows as the code fills them: for each unit its neighbours under their numbers.
-- Follows no manual page: it is how the code keeps them.
-- The proofs of the graph stand on this file.
use Rattle.std.specs.Prelude.{◌≡◌, ℕ, ◌<◌, List, [], length, All, Contains, Option, Some, None, slice_get, nat_eq}
use Rattle.std.specs.Int.RustNames.{bit_or}
use Rattle.std.specs.List.{IsDistinct}
use Rattle.std.specs.Map.{keys_of, lookup, values_of}
use Rattle.indexmap.specs.IndexMap.{insert_entry}
use Rattle.um_graph.specs.Graph.{Holds}
use Rattle.um_graph.specs.declared.kinds.Kinds.{Kinds}
use Rattle.um_graph.specs.declared.row.Neighbour.{Neighbour}
use Rattle.um_graph.specs.declared.units.Unit.{Unit}

abbrev pub Entries : Type 0
Entries = List (ℕ × Neighbour)

-- the neighbour as it stands so far
abbrev pub unless_new : ℕ → Option Neighbour → Neighbour
unless_new unit None = record { unit = unit; kinds = record { 0 = 0 } }
unless_new unit (Some n) = n

abbrev pub found_or_new : Entries → ℕ → Neighbour
found_or_new entries unit = unless_new unit (lookup (nat_eq unit) entries)

abbrev pub with_kinds : Neighbour → Kinds → Neighbour
with_kinds n kinds = record n { kinds = record { 0 = bit_or n.kinds.0 kinds.0 } }

abbrev pub with_kind : Entries → ℕ → Kinds → Entries
with_kind entries unit kinds = insert_entry nat_eq entries unit (with_kinds (found_or_new entries unit) kinds)

abbrev pub entries_at : Option Unit → Entries
entries_at None = []
entries_at (Some unit) = unit.row.neighbours.entries

abbrev pub entries_of : List Unit → ℕ → Entries
entries_of units x = entries_at (slice_get units x)

-- in the row of x stands y, in this way
abbrev pub Joins : List Unit → ℕ → ℕ → ℕ → Type 0
Joins units bit x y = Holds (values_of (entries_of units x)) bit y

-- each neighbour stands under its own number, once, and is one of the n units
pub record IsRow (n : ℕ) (entries : Entries) : Type 0 where
  pub keyed : All (λ e. e.0 ≡ e.1.unit) entries
  pub within : All (λ e. e.0 < n) entries
  pub unique : IsDistinct nat_eq (keys_of entries)

-- a bit and two units that stand so to one another
abbrev pub Bond : Type 0
Bond = ℕ × ℕ × ℕ

-- the rows hold just these bonds
pub record AreRows (bonds : List Bond) (units : List Unit) : Type 0 where
  pub rows : (x : ℕ) → IsRow (length units) (entries_of units x)
  pub given : (bit x y : ℕ) → Joins units bit x y → Contains bonds (bit, x, y)
  pub whole : (bit x y : ℕ) → Contains bonds (bit, x, y) → Joins units bit x y
