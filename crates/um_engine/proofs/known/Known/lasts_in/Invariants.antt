use Rattle.std.proofs.Common.{◌<◌, ℕ, List, Contains, get_or}
use Rattle.um_graph.specs.Graph.{IsNumberOf}
use Rattle.um_model.specs.Machine.{IsHeld}
use Rattle.um_state.specs.View.{state_of}
use Rattle.um_engine.proofs.known.Known.lasts_in.Given as goal

-- each unit so far of which anything is held lasts
abbrev pub invariant-loop-number : goal.invariant-loop-number
invariant-loop-number l =
    (i : ℕ) → i < l.number-index → (d : ℕ) (unit : List ℕ) → IsNumberOf l.self.graph (get_or l.number-items i d) unit → IsHeld (state_of l.work.now) unit → Contains l.self.lasting unit
