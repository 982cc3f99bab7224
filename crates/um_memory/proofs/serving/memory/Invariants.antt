use Rattle.std.proofs.Common.{◌≡◌, false, ℕ, List, [], Option}
use Rattle.um_memory.specs.Managers.{size_of, WritesReplies, WritesBeginning}
use Rattle.um_memory.specs.Streams.{WritesFrom, BeginsFrom}
use Rattle.um_keeper.specs.Keepers.{has_failed}
use Rattle.um_memory.specs.Stores.{memory_size}
use Rattle.um_model.specs.Machine.{empty_state}
use Rattle.um_model.specs.declared.frames.Ending.{Ending}
use Rattle.um_memory.proofs.serving.memory.Given as goal

-- serving the rest serves the whole
abbrev pub invariant-frames : goal.invariant-frames
invariant-frames g l = record {
  working : has_failed l.manager.keeper ≡ false;
  size : size_of l.manager ≡ memory_size;
  serves : (new : Option (List ℕ)) (e : Ending) → WritesReplies l.manager (g.R.Read.remaining l.input) (g.W.Write.contents l.output) new e
      → WritesFrom memory_size empty_state [] (g.R.Read.remaining l.initial.input) (g.W.Write.contents l.initial.output) new e;
  begins : (new : Option (List ℕ)) → WritesBeginning l.manager (g.R.Read.remaining l.input) (g.W.Write.contents l.output) new
      → BeginsFrom memory_size empty_state [] (g.R.Read.remaining l.initial.input) (g.W.Write.contents l.initial.output) new;
}
