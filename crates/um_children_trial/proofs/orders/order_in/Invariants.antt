use Rattle.std.proofs.Common.{length}
use Rattle.um_children_trial.proofs.orders.order_in.Given as goal

abbrev pub decreases-loop-handed : goal.decreases-loop-handed
decreases-loop-handed l = length l.receipt.1
