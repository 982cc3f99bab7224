use Rattle.um_model.proofs.BytesLaws.{one_reading}
use Rattle.um_model.proofs.StateSpellingsLaws.{canonical_state}
use Rattle.um_state.proofs.laws.no_spelling_of_a_state_begins_another.Goals as goal

pub returns : goal.returns
returns c = one_reading canonical_state
