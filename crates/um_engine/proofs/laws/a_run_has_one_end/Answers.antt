use Rattle.um_laws.proofs.MachineLaws.{one_run}
use Rattle.um_engine.proofs.laws.a_run_has_one_end.Goals as goal

pub returns : goal.returns
returns c = one_run
