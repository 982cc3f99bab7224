-- The kinds in which units stand to one another, as bits of a set.
-- Follows systemd.unit(5), "Mapping of unit properties to their inverses".
-- The rows of a graph stand on this file.
use Rattle.std.specs.Prelude.{ℕ, ◌==◌, ◌^◌, Bool}
use Rattle.std.specs.Int.RustNames.{bit_and}
use Rattle.um_model.specs.declared.dependencies.DependencyKind.{DependencyKind}
use Rattle.um_model.specs.declared.dependencies.DependencyKind.TheVariants.{Wants, Requires, BindsTo, PartOf, Conflicts}
use Rattle.um_graph.specs.declared.kinds.Kinds.{Kinds}

-- the bit of a kind
abbrev pub bit_of : DependencyKind → ℕ
bit_of Wants = 0
bit_of Requires = 1
bit_of BindsTo = 2
bit_of PartOf = 3
bit_of Conflicts = 4

-- the bit of a unit that comes before another
abbrev pub before_bit : ℕ
before_bit = 5

-- the bit of the inverse of a kind
abbrev pub inverse_bit_of : DependencyKind → ℕ
inverse_bit_of Wants = 6
inverse_bit_of Requires = 7
inverse_bit_of BindsTo = 8
inverse_bit_of PartOf = 9
inverse_bit_of Conflicts = 10

-- the bit of a unit that comes after another
abbrev pub after_bit : ℕ
after_bit = 11

-- the bit is in the set
abbrev pub has : ℕ → Kinds → Bool
has bit kinds = bit_and kinds.0 (2 ^ bit) == 2 ^ bit
