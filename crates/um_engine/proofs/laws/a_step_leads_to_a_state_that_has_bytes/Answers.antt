use Rattle.um_laws.proofs.WholeLaws.{step_fits}
use Rattle.um_engine.proofs.laws.a_step_leads_to_a_state_that_has_bytes.Goals as goal

pub returns : goal.returns
returns c = step_fits
