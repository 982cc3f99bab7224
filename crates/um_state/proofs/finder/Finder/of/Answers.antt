use Rattle.std.proofs.Common.{arith, subst}
use Rattle.um_state.proofs.FindingLaws.{FindsBelow, finds_more, finds_all, row_is}
use Rattle.um_state.proofs.finder.Finder.of.Goals as goal

pub loop-i-init : goal.loop-i-init
loop-i-init c = λ i n h has. absurd (omega (arith, h))

pub loop-i-preserved : goal.loop-i-preserved
loop-i-preserved c =
    finds_more c.args.rows.now c.loop-i.finder c.add.new.self c.loop-i.i c.index-rows-i.result (row_is c.args.rows.now c.loop-i.i c.index-rows-i.result (omega arith) c.index-rows-i.is) c.loop-i.invariant c.add.ensures.keeps c.add.ensures.told

pub returns : goal.returns
returns c = finds_all c.args.rows.now c.loop-i.finder (subst (FindsBelow c.args.rows.now c.loop-i.finder) (omega arith) c.loop-i.invariant)
