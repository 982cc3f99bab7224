use Rattle.std.proofs.Common.{◌≡◌, ◌<◌, ℕ, get_or, length}
use Rattle.um_laws.proofs.NameMaps.{seen}
use Rattle.um_model.specs.Jobs.{no_jobs, jobs_of_unit}
use Rattle.um_name.specs.Names.{name_at}
use Rattle.um_state.proofs.rows.job_rows_in.Given as goal

-- the rows so far are those of the names so far
abbrev pub invariant-loop-i : goal.invariant-loop-i
invariant-loop-i l = record {
  len : length l.rows.items ≡ l.i;
  rows : (k : ℕ) → k < l.i → get_or l.rows.items k no_jobs ≡ jobs_of_unit (seen l.entries) (name_at l.names k);
}
