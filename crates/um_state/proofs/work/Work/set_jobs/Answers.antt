use Rattle.std.proofs.Common.{◌<◌, arith, length}
use Rattle.um_state.proofs.MarkLaws.{jobs_marked}
use Rattle.um_state.proofs.WorkLaws.{past_jobs_row, set_jobs_row}
use Rattle.um_state.proofs.work.Work.set_jobs.Goals as goal

pub invariant_of-self : goal.invariant_of-self
invariant_of-self c =
    let s = c.self.inside in
    let (was, units_len, jobs_len, are, marks_len, unmarked) = c.self.invariant in
    let here : c.args.i < length s.marked.items = omega arith in
    (was, units_len, jobs_len, are, marks_len, jobs_marked s.marked.items c.args.i here s.was.units.now s.units.now s.was.jobs.now s.jobs.items unmarked c.args.jobs)

pub returns-then-i-len-clause-now : goal.returns-then-i-len-clause-now
returns-then-i-len-clause-now c = set_jobs_row c.args.self.now c.self.inside.base.now c.self.inside.units.now c.self.inside.jobs.items c.self.inside.next c.self.view_is c.self.invariant.3.ascending (omega arith) c.args.i c.args.jobs (omega arith)

pub returns-else-i-len-clause-now : goal.returns-else-i-len-clause-now
returns-else-i-len-clause-now c = past_jobs_row c.args.self.now c.self.inside.base.now c.self.inside.units.now c.self.inside.jobs.items c.self.inside.next c.self.view_is (omega arith) c.args.i c.args.jobs (omega arith)
