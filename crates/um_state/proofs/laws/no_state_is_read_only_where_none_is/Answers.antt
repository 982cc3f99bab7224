use Rattle.um_model.proofs.BytesLaws.{none_spelled}
use Rattle.um_model.proofs.StateSpellingsLaws.{canonical_state}
use Rattle.um_state.proofs.laws.no_state_is_read_only_where_none_is.Goals as goal

pub returns : goal.returns
returns c = none_spelled canonical_state
