use Rattle.um_serve.proofs.SleepLaws.{nothing_changed}
use Rattle.um_serve.proofs.laws.a_turn_that_leaves_the_clock_changed_nothing.Goals as goal

pub returns : goal.returns
returns c = nothing_changed
