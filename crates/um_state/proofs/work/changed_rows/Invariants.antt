use Rattle.std.proofs.Common.{◌≡◌}
use Rattle.um_state.specs.Working.{changed}
use Rattle.um_state.proofs.work.changed_rows.Given as goal

-- those that differ so far
abbrev pub invariant-loop-number : goal.invariant-loop-number
invariant-loop-number l = l.rows.items ≡ changed l.units.was l.had l.units.now l.jobs l.number
