use Rattle.um_model.proofs.TimersLaws.{one_due_first}
use Rattle.um_timer.proofs.timers.one_timer_is_due_first.Goals as goal

pub returns : goal.returns
returns c timers deadline later unit other = one_due_first timers deadline later unit other
