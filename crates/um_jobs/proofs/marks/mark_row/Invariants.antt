use Rattle.std.proofs.Common.{◌≡◌, ℕ, false, cond, length, get_or, take}
use Rattle.um_jobs.specs.Counts.{is_free, is_listed}
use Rattle.um_jobs.proofs.marks.mark_row.Given as goal

-- the neighbours so far are marked again
abbrev pub invariant-loop-neighbour : goal.invariant-loop-neighbour
invariant-loop-neighbour l = record {
  len : length l.ready ≡ length l.initial.ready;
  each : (u : ℕ) → get_or l.ready u false ≡ cond (is_listed (take l.neighbour-index l.row) u) (is_free l.units l.held l.counts u) (get_or l.initial.ready u false);
}
