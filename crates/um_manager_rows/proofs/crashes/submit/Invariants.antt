use Rattle.std.proofs.Common.{length}
use Rattle.um_manager_rows.proofs.crashes.submit.Given as goal

abbrev pub decreases-loop-handed : goal.decreases-loop-handed
decreases-loop-handed g l = length l.receipt.1
