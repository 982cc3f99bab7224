use Rattle.std.proofs.Common.{◌∙◌, ap}
use Rattle.um_model.specs.Jobs.{no_jobs, with_jobs}
use Rattle.um_state.proofs.PutLaws.{jobs_put_well}
use Rattle.um_state.proofs.SetLaws.{named_put}
use Rattle.um_state.proofs.units.Pending.set.Goals as goal

pub returns-in-Some-clause-ok : goal.returns-in-Some-clause-ok
returns-in-Some-clause-ok c =
    c.swap.ensures.held ∙ named_put no_jobs with_jobs jobs_put_well c.args.self.now c.self.inside.names (ap (λ t. t.names) c.self.view_is) c.args.unit.now c.in-Some.i c.in-Some.ensures.number c.args.jobs
