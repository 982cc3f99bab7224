use Rattle.um_laws.proofs.FitStateLaws.{accepted_after}
use Rattle.um_state.proofs.laws.an_accepted_input_is_short.Goals as goal

pub returns : goal.returns
returns c size s inputs t u input reply actions blank has fit fits run = accepted_after size s inputs t blank has fit run input reply actions u fits
