use Rattle.std.specs.Vec.Iter.{into_iter_len}
use Rattle.um_store_rows.proofs.listing.told.Given as goal

abbrev pub decreases-loop-answer : goal.decreases-loop-answer
decreases-loop-answer g l = into_iter_len l.rest
