use Rattle.std.proofs.Common.{◌<◌, ℕ, List, Contains, get_or, option_copied}
use Rattle.um_graph.specs.Graph.{IsNumberOf}
use Rattle.um_state.specs.View.{state_of}
use Rattle.um_engine.specs.Known.{IsHeldWith}
use Rattle.um_engine.proofs.known.Known.lasts_for.Given as goal

-- each one so far that is held lasts
abbrev pub invariant-loop-number : goal.invariant-loop-number
invariant-loop-number l =
    (i : ℕ) → i < l.number-index → (d : ℕ) (unit : List ℕ) → IsNumberOf l.self.graph (get_or l.number-items i d) unit
    → IsHeldWith (state_of l.state) (option_copied l.named) unit → Contains l.self.lasting unit
