use Rattle.std.proofs.Common.{◌≡◌, ◌<◌, ℕ, length}
use Rattle.um_jobs.specs.Named.{jobs_at}
use Rattle.um_jobs.proofs.table.put_all.Given as goal

-- the first units have their jobs of the plan
abbrev pub invariant-loop-unit : goal.invariant-loop-unit
invariant-loop-unit l = record {
  each : (u : ℕ) → u < l.unit → jobs_at l.units u ≡ jobs_at l.plan u;
  long : length l.units ≡ length l.initial.units;
}
