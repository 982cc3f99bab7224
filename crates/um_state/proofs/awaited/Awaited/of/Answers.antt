use Rattle.std.proofs.Common.{arith, subst}
use Rattle.um_state.proofs.AwaitingLaws.{HasBelow, has_more, has_all}
use Rattle.um_state.proofs.FindingLaws.{row_is}
use Rattle.um_state.proofs.awaited.Awaited.of.Goals as goal

pub loop-i-init : goal.loop-i-init
loop-i-init c = λ i n h has. absurd (omega (arith, h))

pub loop-i-preserved : goal.loop-i-preserved
loop-i-preserved c =
    has_more c.args.rows.now c.loop-i.awaited c.note.new.self c.loop-i.i c.index-rows-i.result (row_is c.args.rows.now c.loop-i.i c.index-rows-i.result (omega arith) c.index-rows-i.is) c.loop-i.invariant c.note.ensures.keeps c.note.ensures.has

pub returns : goal.returns
returns c = has_all c.args.rows.now c.loop-i.awaited (subst (HasBelow c.args.rows.now c.loop-i.awaited) (omega arith) c.loop-i.invariant)
