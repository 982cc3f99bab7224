use Rattle.um_laws.proofs.FitStateLaws.{fits_after}
use Rattle.um_state.proofs.laws.each_state_of_a_run_has_a_spelling.Goals as goal

pub returns : goal.returns
returns c size s inputs t blank has fit run = fits_after size s inputs t blank has fit run
