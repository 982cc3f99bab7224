use Rattle.um_engine.proofs.TellingLaws.{both_told}
use Rattle.um_engine.proofs.numbered.tell_jobs.Goals as goal

pub returns : goal.returns
returns c = both_told c.args.unit c.args.told c.args.jobs.now c.tell_job.new.jobs c.tell_job.ensures c.tell_job-2.new.jobs c.tell_job-2.ensures
