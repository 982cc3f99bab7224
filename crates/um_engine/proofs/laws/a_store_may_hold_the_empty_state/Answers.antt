use Rattle.um_laws.proofs.ServableLaws.{blank_servable}
use Rattle.um_engine.proofs.laws.a_store_may_hold_the_empty_state.Goals as goal

pub returns : goal.returns
returns c = blank_servable
