use Rattle.um_laws.proofs.NumbersLaws.{run_numbers_rise}
use Rattle.um_engine.proofs.laws.no_number_is_started_twice.Goals as goal

pub returns : goal.returns
returns c = run_numbers_rise
