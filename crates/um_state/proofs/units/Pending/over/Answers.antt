use Rattle.std.proofs.Common.{◌∙◌}
use Rattle.um_laws.proofs.NameMaps.{seen}
use Rattle.um_model.specs.Jobs.{no_jobs, with_jobs}
use Rattle.um_state.proofs.PutLaws.{jobs_put_well}
use Rattle.um_state.proofs.RenumberLaws.{by_looks}
use Rattle.um_state.proofs.units.Pending.over.Goals as goal

pub returns-clause-held : goal.returns-clause-held
returns-clause-held c tidy apart =
    by_looks no_jobs with_jobs jobs_put_well c.args.names c.in_ok-jobs.jobs.items (seen c.args.entries.now) c.job_rows_in.ensures.ascending tidy c.in_ok-jobs.ensures.rows apart
