use Rattle.std.proofs.Common.{◌≤◌, length, drop}
use Rattle.um_model.specs.Machine.{AreDeadlines}
use Rattle.um_state.specs.Tables.{units_by}
use Rattle.um_state.proofs.rows.deadlines_of.Given as goal

-- the deadlines set so far are those of the rows that were passed
abbrev pub invariant-loop-i : goal.invariant-loop-i
invariant-loop-i l = record {
  within : l.i ≤ length l.names;
  set : AreDeadlines (units_by (drop l.i l.names) (drop l.i l.rows)) l.timers;
}

abbrev pub decreases-loop-i : goal.decreases-loop-i
decreases-loop-i l = l.i
