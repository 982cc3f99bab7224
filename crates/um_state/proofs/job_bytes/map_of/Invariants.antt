use Rattle.std.proofs.Common.{◌≡◌, length, map}
use Rattle.um_laws.proofs.NameMaps.{seen}
use Rattle.um_model.specs.StateSpellings.{pending_of}
use Rattle.um_state.specs.Shown.{job_of}
use Rattle.um_state.proofs.JobLists.{with_list}
use Rattle.um_state.proofs.job_bytes.map_of.Given as goal

-- the jobs that are left, put beside those that are there, are all
abbrev pub invariant-loop-job : goal.invariant-loop-job
invariant-loop-job l = with_list (map job_of l.rest.items) (seen l.entries) ≡ pending_of (map job_of l.fn.jobs.items)

abbrev pub decreases-loop-job : goal.decreases-loop-job
decreases-loop-job l = length l.rest.items
