use Rattle.std.proofs.Common.{◌≡◌, ◌≤◌, ◌++◌, drop, length}
use Rattle.um_falling.proofs.BoundLaws.{falling_in}
use Rattle.um_state.specs.View.{state_of}
use Rattle.um_falling.proofs.falling.push_bound.Given as goal

-- those from this place on are before the others
abbrev pub invariant-loop-place : goal.invariant-loop-place
invariant-loop-place l = record {
  list : l.list.items ≡ falling_in (state_of l.work.now) l.work.graph (drop l.place l.row) ++ l.fn.list.items;
  within : l.place ≤ length l.row;
}

abbrev pub decreases-loop-place : goal.decreases-loop-place
decreases-loop-place l = l.place
