use Rattle.std.proofs.Common.{◌≡◌, ◌++◌, ◌∷◌, [], cond, get_or}
use Rattle.um_name.specs.Names.{name_at}
use Rattle.um_model.specs.Jobs.{has_job, no_jobs}
use Rattle.um_state.proofs.EntryLaws.{gathered}
use Rattle.um_state.proofs.rows.push_held_jobs.Given as goal

-- the list has the names of the rows so far of which something is held
abbrev pub invariant-loop-i : goal.invariant-loop-i
invariant-loop-i l = l.noted.items ≡ l.initial.noted.items ++ gathered (λ i. cond (has_job (get_or l.rows i no_jobs)) (name_at l.names i ∷ []) []) 0 l.i
