use Rattle.std.proofs.Common.{ℕ, ◌≡◌, ◌<◌, vec_len}
use Rattle.um_transact.specs.Checks.{planned_at}
use Rattle.um_jobs.specs.Named.{jobs_at}
use Rattle.um_transact.proofs.plan.planned.Given as goal

abbrev pub invariant-loop-unit : goal.invariant-loop-unit
invariant-loop-unit l = record {
  long : vec_len l.plan ≡ l.unit;
  each : (u : ℕ) → u < l.unit → jobs_at l.plan.items u ≡ planned_at l.marks l.activity l.pending u;
}
