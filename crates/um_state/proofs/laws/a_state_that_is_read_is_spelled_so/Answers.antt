use Rattle.um_model.proofs.StateSpellingsLaws.{canonical_state}
use Rattle.um_state.proofs.laws.a_state_that_is_read_is_spelled_so.Goals as goal

pub returns : goal.returns
returns c = canonical_state.takes
