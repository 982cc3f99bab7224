use Rattle.std.proofs.Common.{ℕ, ◌≡◌, ◌<◌, List, vec_len}
use Rattle.um_graph.specs.Graph.{IsNumberOf}
use Rattle.um_jobs.specs.Named.{jobs_at}
use Rattle.um_model.specs.Jobs.{jobs_of_unit}
use Rattle.um_state.specs.View.{state_of}
use Rattle.um_engine.proofs.numbered.pending_by_number.Given as goal

abbrev pub invariant-loop-unit : goal.invariant-loop-unit
invariant-loop-unit l = record {
  long : vec_len l.pending ≡ l.unit;
  each : (i : ℕ) → i < l.unit → (x : List ℕ) → IsNumberOf l.graph i x → jobs_at l.pending.items i ≡ jobs_of_unit (state_of l.state).pending x;
}
