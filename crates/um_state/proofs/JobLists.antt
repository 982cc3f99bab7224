-- The map of the jobs of a list, made from the end of the list.
use Rattle.std.proofs.Common.{◌≡◌, List, [], ◌∷◌, ◌++◌, refl, ap, subst}
use Rattle.std.specs.FinMap as map
use Rattle.um_model.specs.Service.{ByUnit}
use Rattle.um_model.specs.Jobs.{JobShown, jobs_of_unit, no_jobs, with_jobs, with_job}
use Rattle.um_model.specs.StateSpellings.{pending_of}
use Rattle.um_model.proofs.PendingSpellingsLaws.{has_with_job}
use Rattle.um_model.proofs.UnitLaws.{IsTidy, tidy_empty, tidy_jobs}
use Rattle.um_model.specs.declared.jobs.UnitJobs.{UnitJobs}

-- with one more job
abbrev pub with_one : JobShown → ByUnit UnitJobs → ByUnit UnitJobs
with_one j pending = map.insert pending j.unit (with_job j.kind j.state (jobs_of_unit pending j.unit))

-- with the jobs of a list, the last one first
abbrev pub with_list : List JobShown → ByUnit UnitJobs → ByUnit UnitJobs
with_list [] pending = pending
with_list (j ∷ js) pending = with_one j (with_list js pending)

pub all_of_list : (js : List JobShown) → with_list js map.empty ≡ pending_of js
all_of_list [] = refl
all_of_list (j ∷ js) = ap (with_one j) (all_of_list js)

pub last_first : (js : List JobShown) (j : JobShown) (pending : ByUnit UnitJobs) → with_list (js ++ j ∷ []) pending ≡ with_list js (with_one j pending)
last_first [] j pending = refl
last_first (k ∷ js) j pending = ap (with_one k) (last_first js j pending)

-- the jobs that a unit is set to include a job
pub set_is : (j : JobShown) (pending : ByUnit UnitJobs) → with_jobs pending j.unit (with_job j.kind j.state (jobs_of_unit pending j.unit)) ≡ with_one j pending
set_is j pending = rw (has_with_job j.kind j.state (jobs_of_unit pending j.unit)) refl

-- nothing is held of a unit without a job
pub tidy_list : (js : List JobShown) → IsTidy no_jobs (pending_of js)
tidy_list [] = tidy_empty no_jobs
tidy_list (j ∷ js) = subst (IsTidy no_jobs) (set_is j (pending_of js)) (tidy_jobs (pending_of js) j.unit (with_job j.kind j.state (jobs_of_unit (pending_of js) j.unit)) (tidy_list js))
