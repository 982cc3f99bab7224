use Rattle.std.proofs.Common.{ℕ, ◌≡◌, ◌<◌, List, vec_len}
use Rattle.um_graph.specs.Graph.{IsNumberOf}
use Rattle.um_model.specs.Service.{active_state_of, state_of_unit}
use Rattle.um_state.specs.View.{state_of}
use Rattle.um_transact.specs.Walk.{activity_at}
use Rattle.um_engine.proofs.planning.activity.Given as goal

abbrev pub invariant-loop-unit : goal.invariant-loop-unit
invariant-loop-unit l = record {
  long : vec_len l.activity ≡ l.unit;
  each : (i : ℕ) → i < l.unit → (x : List ℕ) → IsNumberOf l.work.graph i x → activity_at l.activity.items i ≡ active_state_of (state_of_unit (state_of l.work.now).units x).sub;
}
