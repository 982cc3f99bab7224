use Rattle.um_keeper.proofs.Reopening.{a_taken_read}
use Rattle.um_keeper.proofs.laws.what_is_taken_up_is_not_refused.Goals as goal

pub returns : goal.returns
returns c = a_taken_read
