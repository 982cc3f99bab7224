use Rattle.std.proofs.Common.{◌≡◌, take, drop}
use Rattle.um_state.specs.Rows.{rows_after, rows_before}
use Rattle.um_state.proofs.delta.swap_rows.Given as goal

abbrev pub invariant-loop-row : goal.invariant-loop-row
invariant-loop-row l = record {
  state : rows_after (drop l.row-index l.rows) l.state ≡ rows_after l.initial.rows l.initial.state;
  back : rows_before (take l.row-index l.rows) l.state ≡ l.initial.state;
}
