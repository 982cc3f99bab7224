use Rattle.um_serve.proofs.SleepLaws.{past_turn}
use Rattle.um_serve.proofs.laws.a_blocked_deadline_wakes_nobody.Goals as goal

pub returns : goal.returns
returns c = past_turn
