use Rattle.std.proofs.Common.{◌≡◌, length}
use Rattle.std.specs.BTreeSet.{contains}
use Rattle.std.specs.Ordering.{nat_cmp}
use Rattle.um_model.specs.StateSpellings.{are_distinct}
use Rattle.um_state.proofs.Distinct.{are_new}
use Rattle.um_state.proofs.unit_bytes.are_distinct.Given as goal

-- all numbers are distinct exactly if those that are left are distinct and new
abbrev pub invariant-loop-rest : goal.invariant-loop-rest
invariant-loop-rest l = are_new (contains nat_cmp l.held) l.rest ≡ are_distinct l.numbers

abbrev pub decreases-loop-rest : goal.decreases-loop-rest
decreases-loop-rest l = length l.rest
