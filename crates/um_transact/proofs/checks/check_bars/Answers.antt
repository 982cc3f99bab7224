use Rattle.std.proofs.Common.{arith, below_more}
use Rattle.um_model.specs.Refusals.{Refused}
use Rattle.um_transact.specs.Checks.{BarsBy}
use Rattle.um_transact.proofs.checks.check_bars.Goals as goal

pub loop-unit-preserved : goal.loop-unit-preserved
loop-unit-preserved c = below_more (λ u. (r : Refused) → ¬ BarsBy c.args.graph.now c.args.marks.now u r) c.loop-unit.unit c.loop-unit.invariant c.in_ok-check_bar.ensures

pub returns : goal.returns
returns c = λ u h. c.loop-unit.invariant u (omega (arith, h))
