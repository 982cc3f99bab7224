use Rattle.std.proofs.Common.{◌∙◌, ap, arith}
use Rattle.um_state.specs.Working.{pending_at}
use Rattle.um_state.proofs.WorkLaws.{jobs_past, jobs_row, jobs_tidy}
use Rattle.um_state.proofs.work.Work.jobs.Goals as goal

pub returns-clause-jobs : goal.returns-clause-jobs
returns-clause-jobs c = λ within.
    c.jobs_in_row.ensures
    ∙ (ap (λ rows. pending_at rows c.args.i) c.deref.ensures.value
    ∙ jobs_row c.args.self.now c.self.inside.base.now c.self.inside.units.now c.self.inside.jobs.items c.self.inside.next c.self.view_is c.self.invariant.3.ascending c.args.i within)

pub returns-clause-past : goal.returns-clause-past
returns-clause-past c = λ past.
    c.jobs_in_row.ensures
    ∙ (ap (λ rows. pending_at rows c.args.i) c.deref.ensures.value
    ∙ jobs_past c.args.self.now c.self.inside.base.now c.self.inside.units.now c.self.inside.jobs.items c.self.inside.next c.self.view_is (omega arith) c.args.i past)

pub returns-clause-tidy : goal.returns-clause-tidy
returns-clause-tidy c = jobs_tidy c.args.self.now c.self.inside.base.now c.self.inside.units.now c.self.inside.jobs.items c.self.inside.next c.self.view_is
