use Rattle.std.proofs.Common.{◌≤◌, length, map, subst, sym}
use Rattle.um_model.specs.Machine.{State}
use Rattle.um_model.specs.Jobs.{AreTidyJobs, jobs_of_unit}
use Rattle.um_state.specs.View.{state_of, action_of}
use Rattle.um_falling.specs.Work.{WorkView}
use Rattle.um_falling.proofs.WorkLaws.{told_by}
use Rattle.um_falling.proofs.work.Work.jobs.Goals as goal

pub returns-clause-jobs : goal.returns-clause-jobs
returns-clause-jobs c =
    told_by c.args.self.now c.self.inside.graph.now c.self.inside.rows.base c.self.inside.rows.now c.self.inside.moment (map action_of c.self.inside.actions.items) c.self.view_is c.self.invariant.0
    (λ (s : State) name. jobs_of_unit s.pending name) c.args.unit c.jobs.result c.jobs.ensures.jobs

pub returns-clause-past : goal.returns-clause-past
returns-clause-past c = λ past.
    c.jobs.ensures.past (subst (λ ns. length ns ≤ c.args.unit) (sym c.self.invariant.0) (subst (λ (w : WorkView). length w.graph.names ≤ c.args.unit) (sym c.self.view_is) past))

pub returns-clause-tidy : goal.returns-clause-tidy
returns-clause-tidy c = subst (λ (w : WorkView). AreTidyJobs (state_of w.now).pending) c.self.view_is c.jobs.ensures.tidy
