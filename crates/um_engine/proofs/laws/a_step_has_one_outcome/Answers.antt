use Rattle.um_laws.proofs.MachineLaws.{one_outcome}
use Rattle.um_engine.proofs.laws.a_step_has_one_outcome.Goals as goal

pub returns : goal.returns
returns c = one_outcome
