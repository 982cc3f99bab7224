use Rattle.um_model.specs.Jobs.{no_jobs, with_jobs}
use Rattle.um_state.proofs.PutLaws.{jobs_put_well}
use Rattle.um_state.proofs.TableLaws.{tidy_table}
use Rattle.um_state.proofs.units.Pending.numbers.Goals as goal

pub returns-clause-tidy : goal.returns-clause-tidy
returns-clause-tidy c = tidy_table no_jobs with_jobs jobs_put_well c.args.self.now c.self.inside.names c.self.inside.jobs.items c.self.view_is c.self.invariant.1
