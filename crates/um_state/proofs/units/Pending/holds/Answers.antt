use Rattle.std.proofs.Common.{◌∙◌, ap}
use Rattle.um_model.specs.Jobs.{has_job}
use Rattle.um_state.proofs.HeldLaws.{jobs_there}
use Rattle.um_state.proofs.units.Pending.holds.Goals as goal

pub returns : goal.returns
returns c = c.has_job.ensures ∙ (ap has_job c.get.ensures.jobs ∙ jobs_there c.args.self.now.held c.get.ensures.tidy c.args.unit.now)
