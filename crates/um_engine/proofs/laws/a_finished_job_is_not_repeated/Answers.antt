use Rattle.um_laws.proofs.FinishedLaws.{not_repeated}
use Rattle.um_engine.proofs.laws.a_finished_job_is_not_repeated.Goals as goal

pub returns : goal.returns
returns c = not_repeated
