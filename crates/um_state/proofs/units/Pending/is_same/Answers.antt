use Rattle.um_model.specs.Jobs.{no_jobs, with_jobs}
use Rattle.um_state.proofs.PutLaws.{jobs_put_well}
use Rattle.um_state.proofs.SameLaws.{both_told, not_told}
use Rattle.um_state.proofs.units.Pending.is_same.Goals as goal

pub returns-then-jobs_told_by : goal.returns-then-jobs_told_by
returns-then-jobs_told_by c =
    both_told no_jobs with_jobs jobs_put_well c.args.self.now c.args.other.now c.self.inside.names c.other.inside.names c.self.inside.jobs.items c.other.inside.jobs.items c.self.view_is c.other.view_is
    c.self.invariant.1 c.other.invariant.1 c.deref.result.now c.deref.ensures.value c.jobs_told_by.result c.jobs_told_by.ensures
    c.deref-then-jobs_told_by.result.now c.deref-then-jobs_told_by.ensures.value c.jobs_told_by-then-jobs_told_by.result c.jobs_told_by-then-jobs_told_by.ensures c.if-jobs_told_by.true

pub returns-else-jobs_told_by : goal.returns-else-jobs_told_by
returns-else-jobs_told_by c =
    not_told no_jobs with_jobs jobs_put_well c.args.self.now c.args.other.now c.self.inside.names c.other.inside.names c.self.inside.jobs.items c.other.inside.jobs.items c.self.view_is c.other.view_is
    c.self.invariant.1 c.other.invariant.1 c.deref.result.now c.deref.ensures.value c.jobs_told_by.result c.jobs_told_by.ensures
    c.if-jobs_told_by.false
