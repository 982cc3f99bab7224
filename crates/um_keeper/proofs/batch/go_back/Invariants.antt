use Rattle.std.proofs.Common.{◌≡◌, vec_len}
use Rattle.um_engine.specs.Engine.{standing_in, size_in}
use Rattle.um_keeper.specs.Answering.{state_before_all}
use Rattle.um_keeper.proofs.batch.go_back.Given as goal

abbrev pub decreases-loop-back : goal.decreases-loop-back
decreases-loop-back l = vec_len l.backs

abbrev pub invariant-loop-back : goal.invariant-loop-back
invariant-loop-back l = record {
  state : state_before_all l.backs.items (standing_in l.engine) ≡ state_before_all l.fn.backs.items (standing_in l.fn.engine);
  size : size_in l.engine ≡ size_in l.fn.engine;
}
