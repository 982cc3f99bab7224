use Rattle.std.specs.Vec.Iter.{into_iter_len}
use Rattle.um_store_in_turn.proofs.scripts.counted.Given as goal

abbrev pub decreases-loop-answer : goal.decreases-loop-answer
decreases-loop-answer l = into_iter_len l.rest
