use Rattle.std.proofs.Common.{length}
use Rattle.um_manager.proofs.paying.+pay_all.Given as goal

abbrev pub decreases-pay_all : goal.decreases-pay_all
decreases-pay_all g l = length l.sessions.now
