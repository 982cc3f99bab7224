use Rattle.um_model.specs.Jobs.{IsToldBefore}
use Rattle.um_model.proofs.LeastLaws.{one_least}
use Rattle.um_laws.proofs.MachineLaws.{same_job, told_one_way}
use Rattle.um_jobs.specs.Jobs.{IsReadyIn}
use Rattle.um_jobs.proofs.laws.one_ready_job_is_the_least.Goals as goal

pub returns : goal.returns
returns c = λ g v job other h k. one_least IsToldBefore (IsReadyIn g v) told_one_way same_job job other h k
