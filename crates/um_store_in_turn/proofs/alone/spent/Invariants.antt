use Rattle.std.proofs.Common.{length}
use Rattle.um_store_in_turn.proofs.alone.spent.Given as goal

abbrev pub decreases-loop-handed : goal.decreases-loop-handed
decreases-loop-handed l = length l.receipt.1
