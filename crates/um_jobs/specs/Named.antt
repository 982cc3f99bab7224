-- The pending jobs of a graph's units, by their numbers and by their names.
-- Follows no manual page: it turns numbers into names.
-- The jobs and transactions stand on this file.
use Rattle.std.specs.Prelude.{ℕ, List, [], ◌∷◌, slice_index_or}
use Rattle.std.specs.FinMap as map
use Rattle.um_model.specs.Jobs.{no_jobs, with_jobs}
use Rattle.um_model.specs.Service.{ByUnit}
use Rattle.um_model.specs.declared.jobs.UnitJobs.{UnitJobs}

-- the pending jobs of the unit with this number: one past the last has none
abbrev pub jobs_at : List UnitJobs → ℕ → UnitJobs
jobs_at pending u = slice_index_or pending u no_jobs

-- the pending jobs, from those of each unit in the order of the names
abbrev pub jobs_by : List (List ℕ) → List UnitJobs → ByUnit UnitJobs
jobs_by [] jobs = map.empty
jobs_by (n ∷ ns) [] = map.empty
jobs_by (n ∷ ns) (j ∷ jobs) = with_jobs (jobs_by ns jobs) n j
