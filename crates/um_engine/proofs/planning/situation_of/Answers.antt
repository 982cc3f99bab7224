use Rattle.std.proofs.Common.{◌∙◌, subst, sym}
use Rattle.um_model.specs.Jobs.{AreTidyJobs}
use Rattle.um_jobs.proofs.NamedLaws.{jobs_by_tidy}
use Rattle.um_state.specs.View.{state_of}
use Rattle.um_engine.specs.Planned.{ArePending}
use Rattle.um_engine.proofs.NumberedLaws.{named_by, pends_by}
use Rattle.um_engine.proofs.planning.situation_of.Goals as goal

pub returns-clause-pends : goal.returns-clause-pends
returns-clause-pends c =
    let w = c.args.work.now in
    subst (ArePending w.graph (state_of w.now)) (sym c.in_ok-from_slice.ensures.items)
    (pends_by w.graph (state_of w.now) c.pending.result.now c.activity.ensures.graph c.pending.ensures.held)

pub returns-clause-tidy : goal.returns-clause-tidy
returns-clause-tidy c =
    let names = c.args.work.now.graph.names in
    let rows = c.pending.result.now in
    subst AreTidyJobs (sym (named_by names rows) ∙ c.pending.ensures.held) (jobs_by_tidy names rows)
