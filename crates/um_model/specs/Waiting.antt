-- How many jobs of a unit wait, and that no more wait than before.
-- Follows systemctl(1), "list-jobs".
-- The cancelling of jobs, and the units that fall with one, depend on this file.
use Rattle.std.specs.Prelude.{ℕ, Option, Some, ◌+◌, Bool, ◌||◌, ◌≤◌, List}
use Rattle.um_model.specs.declared.jobs.JobState.{JobState}
use Rattle.um_model.specs.declared.jobs.JobState.TheVariants.{Waiting}
use Rattle.um_model.specs.declared.jobs.UnitJobs.{UnitJobs}
use Rattle.um_model.specs.Machine.{is_waiting}
use Rattle.um_model.specs.Jobs.{jobs_of_unit}
use Rattle.um_model.specs.Service.{ByUnit}

-- one job of a kind waits, or none
abbrev pub waits : Option JobState → ℕ
waits (Some Waiting) = 1
waits other = 0

-- how many jobs of a unit wait
abbrev pub waits_in : UnitJobs → ℕ
waits_in j = waits j.stop + waits j.start

-- a job of the unit waits, as a test
abbrev pub has_waiting : UnitJobs → Bool
has_waiting j = is_waiting j.stop || is_waiting j.start

-- of no unit more jobs wait
abbrev pub NoMoreWait : ByUnit UnitJobs → ByUnit UnitJobs → Type 0
NoMoreWait later earlier = (unit : List ℕ) → waits_in (jobs_of_unit later unit) ≤ waits_in (jobs_of_unit earlier unit)
