use Rattle.std.proofs.Common.{◌∙◌, ◌≡◌, arith}
use Rattle.um_state.proofs.DeltaLaws.{after_more, back_more}
use Rattle.um_state.proofs.delta.swap_rows.Goals as goal

pub loop-row-preserved : goal.loop-row-preserved
loop-row-preserved c = record {
  state = after_more c.loop-row.rows c.loop-row.row-index _ c.swap_row.new.row c.loop-row.state c.swap_row.new.self (omega arith) c.swap_row.ensures.state ∙ c.loop-row.invariant.state;
  back = back_more c.loop-row.rows c.loop-row.row-index c.swap_row.new.row c.loop-row.state c.swap_row.new.self (omega arith) c.swap_row.ensures.back ∙ c.loop-row.invariant.back;
}
