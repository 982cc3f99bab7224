use Rattle.std.proofs.Common.{length}
use Rattle.um_store_rows.proofs.inputs.starts.Given as goal

abbrev pub decreases-loop-handed : goal.decreases-loop-handed
decreases-loop-handed l = length l.receipt.1
