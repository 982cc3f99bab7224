use Rattle.um_laws.proofs.FitStateLaws.{empty_fit}
use Rattle.um_state.proofs.laws.the_empty_state_has_a_spelling.Goals as goal

pub returns : goal.returns
returns c = empty_fit
