use Rattle.std.proofs.Common.{◌∙◌, ap}
use Rattle.um_model.specs.Jobs.{no_jobs, with_jobs}
use Rattle.um_state.specs.Tables.{jobs_by}
use Rattle.um_state.proofs.PutLaws.{jobs_put_well}
use Rattle.um_state.proofs.Results.{if_ok_more}
use Rattle.um_state.proofs.TableLaws.{tidy_table}
use Rattle.um_state.proofs.units.Pending.to_map.Goals as goal

pub returns-clause-map : goal.returns-clause-map
returns-clause-map c =
    if_ok_more c.job_map_of.result
    (λ entries are. are ∙ (ap (jobs_by c.self.inside.names) c.deref.ensures.value ∙ ap (λ t. t.held) c.self.view_is)) c.job_map_of.ensures

pub returns-clause-tidy : goal.returns-clause-tidy
returns-clause-tidy c = tidy_table no_jobs with_jobs jobs_put_well c.args.self.now c.self.inside.names c.self.inside.jobs.items c.self.view_is c.self.invariant.1
