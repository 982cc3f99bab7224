use Rattle.um_laws.proofs.ServableLaws.{step_servable}
use Rattle.um_engine.proofs.laws.a_step_leaves_a_state_that_a_store_may_hold.Goals as goal

pub returns : goal.returns
returns c = step_servable
