use Rattle.um_laws.proofs.FreeLaws.{no_cycle_after}
use Rattle.um_engine.proofs.laws.the_pending_jobs_have_no_cycle.Goals as goal

pub returns : goal.returns
returns c = no_cycle_after
