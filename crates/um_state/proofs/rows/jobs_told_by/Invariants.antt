use Rattle.std.proofs.Common.{◌≡◌, ◌<◌, ℕ, get_or}
use Rattle.um_model.specs.Jobs.{no_jobs, jobs_of_unit}
use Rattle.um_name.specs.Names.{name_at}
use Rattle.um_state.proofs.rows.jobs_told_by.Given as goal

-- the rows so far are as the other table says
abbrev pub invariant-loop-i : goal.invariant-loop-i
invariant-loop-i l = (j : ℕ) → j < l.i → get_or l.rows j no_jobs ≡ jobs_of_unit l.held.held (name_at l.names j)
