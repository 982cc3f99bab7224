use Rattle.std.proofs.Common.{◌<◌, ℕ, List, get_or, option_copied}
use Rattle.um_state.specs.View.{state_of}
use Rattle.um_engine.specs.Known.{IsHeldWith}
use Rattle.um_engine.proofs.known.Known.is_made_for.Given as goal

abbrev pub invariant-loop-unit : goal.invariant-loop-unit
invariant-loop-unit l = (i : ℕ) → i < l.unit-index → (d : List ℕ) → IsHeldWith (state_of l.state) (option_copied l.named) (get_or l.unit-items i d)
