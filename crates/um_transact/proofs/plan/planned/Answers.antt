use Rattle.std.proofs.Common.{arith}
use Rattle.um_transact.specs.Checks.{planned_at}
use Rattle.um_transact.proofs.CheckLaws.{planned_more}
use Rattle.um_transact.proofs.plan.planned.Goals as goal

pub loop-unit-preserved : goal.loop-unit-preserved
loop-unit-preserved c = record {
  long = omega (arith, c.in_ok-push.ensures.len);
  each = planned_more (planned_at c.args.marks.now c.args.activity.now c.args.pending.now) c.loop-unit.plan.items c.push.new.self.items c.loop-unit.unit c.planned_jobs.result (omega (arith, c.loop-unit.invariant.long)) c.in_ok-push.ensures.items c.planned_jobs.ensures c.loop-unit.invariant.each;
}
