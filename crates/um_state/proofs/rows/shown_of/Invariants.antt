use Rattle.std.proofs.Common.{◌≡◌, ◌++◌, [], map, get_or}
use Rattle.um_model.specs.Jobs.{jobs_shown_of, no_jobs}
use Rattle.um_name.specs.Names.{name_at}
use Rattle.um_state.proofs.EntryLaws.{gathered}
use Rattle.um_state.specs.Shown.{job_of}
use Rattle.um_state.proofs.rows.shown_of.Given as goal

-- the list has the jobs of the rows so far
abbrev pub invariant-loop-i : goal.invariant-loop-i
invariant-loop-i l = map job_of l.shown.items ≡ [] ++ gathered (λ i. jobs_shown_of (name_at l.names i) (get_or l.rows i no_jobs)) 0 l.i
