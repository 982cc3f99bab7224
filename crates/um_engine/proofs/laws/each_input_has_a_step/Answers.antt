use Rattle.um_laws.proofs.TotalLaws.{a_step}
use Rattle.um_engine.proofs.laws.each_input_has_a_step.Goals as goal

pub returns : goal.returns
returns c = a_step
