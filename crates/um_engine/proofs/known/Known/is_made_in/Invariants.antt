use Rattle.std.proofs.Common.{◌<◌, ℕ, List, get_or}
use Rattle.um_model.specs.Machine.{IsHeld}
use Rattle.um_state.specs.View.{state_of}
use Rattle.um_engine.proofs.known.Known.is_made_in.Given as goal

-- the state holds something of each unit so far
abbrev pub invariant-loop-unit : goal.invariant-loop-unit
invariant-loop-unit l = (i : ℕ) → i < l.unit-index → (d : List ℕ) → IsHeld (state_of l.work.now) (get_or l.unit-items i d)
