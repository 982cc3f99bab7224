use Rattle.um_model.proofs.StateSpellingsLaws.{canonical_state}
use Rattle.um_state.proofs.laws.a_spelled_state_is_read_again.Goals as goal

pub returns : goal.returns
returns c = canonical_state.again
