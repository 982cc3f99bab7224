use Rattle.um_keeper.proofs.Reopening.{one_up}
use Rattle.um_keeper.proofs.laws.a_store_goes_up_behind_the_generations_that_count.Goals as goal

pub returns : goal.returns
returns c = one_up
