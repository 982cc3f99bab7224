use Rattle.std.proofs.Common.{◌≡◌, ◌<◌, ℕ, false, length, get_or}
use Rattle.um_jobs.specs.Counts.{is_free}
use Rattle.um_jobs.proofs.marks.mark_all.Given as goal

-- the first units are marked again
abbrev pub invariant-loop-unit : goal.invariant-loop-unit
invariant-loop-unit l = record {
  len : length l.ready ≡ length l.initial.ready;
  each : (u : ℕ) → u < l.unit → get_or l.ready u false ≡ is_free l.units l.held l.counts u;
}
