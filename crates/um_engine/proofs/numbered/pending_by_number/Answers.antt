use Rattle.std.proofs.Common.{◌≡◌, ℕ, List, arith}
use Rattle.um_graph.specs.Graph.{IsNumberOf}
use Rattle.um_graph.proofs.NamedLaws.{got_within}
use Rattle.um_model.specs.Jobs.{jobs_of_unit, no_jobs}
use Rattle.um_model.specs.declared.jobs.UnitJobs.{UnitJobs}
use Rattle.um_state.specs.View.{state_of}
use Rattle.um_engine.proofs.NumberedLaws.{each_more}
use Rattle.um_engine.proofs.numbered.pending_by_number.Goals as goal

pub loop-unit-preserved : goal.loop-unit-preserved
loop-unit-preserved c = record {
  long = omega (arith, c.in_ok-push.ensures.len);
  each = each_more no_jobs (λ (i : ℕ) (j : UnitJobs). (x : List ℕ) → IsNumberOf c.args.graph.now i x → j ≡ jobs_of_unit (state_of c.args.state.now).pending x)
      c.loop-unit.pending.items c.push.new.self.items c.loop-unit.unit c.jobs_of.result (omega (arith, c.loop-unit.invariant.long)) c.in_ok-push.ensures.items c.jobs_of.ensures c.loop-unit.invariant.each;
}

pub returns-clause-len : goal.returns-clause-len
returns-clause-len c = omega (arith, c.loop-unit.invariant.long)

pub returns-clause-each : goal.returns-clause-each
returns-clause-each c i x at = c.loop-unit.invariant.each i (let h = got_within c.args.graph.now.names i x at in omega (arith, h)) x at
