use Rattle.std.proofs.Common.{◌≡◌, ℕ, take}
use Rattle.std.specs.BTreeSet as sets
use Rattle.std.specs.Ordering.{nat_cmp}
use Rattle.um_fates.specs.Live.{has}
use Rattle.um_fates.proofs.marks.index_of.Given as goal

abbrev pub invariant-loop-number : goal.invariant-loop-number
invariant-loop-number l = (n : ℕ) → sets.contains nat_cmp l.index n ≡ has n (take l.number-index l.numbers)
