use Rattle.um_laws.proofs.FitStateLaws.{spelled_after}
use Rattle.um_state.proofs.laws.no_spelling_of_a_run_is_longer_than_the_weight.Goals as goal

pub returns : goal.returns
returns c size s inputs t units blank has fit run = spelled_after size s inputs t blank has fit run units
