-- Whether a job is dropped, as the code tests it.
-- Follows the definition of dropped jobs, by cases.
-- The table and the checks of a plan stand on this file.
use Rattle.std.specs.Prelude.{Bool, true, false, ◌||◌, Option, Some, None}
use Rattle.um_model.specs.declared.jobs.JobState.{JobState}
use Rattle.um_model.specs.declared.jobs.JobState.TheVariants.{Waiting, Running}
use Rattle.um_model.specs.declared.jobs.UnitJobs.{UnitJobs}

-- a job that was pending is gone, or has changed
abbrev pub is_dropped : Option JobState → Option JobState → Bool
is_dropped None after = false
is_dropped (Some Waiting) (Some Waiting) = false
is_dropped (Some Waiting) (Some Running) = true
is_dropped (Some Waiting) None = true
is_dropped (Some Running) (Some Running) = false
is_dropped (Some Running) (Some Waiting) = true
is_dropped (Some Running) None = true

abbrev pub drops_one : UnitJobs → UnitJobs → Bool
drops_one before after = is_dropped before.stop after.stop || is_dropped before.start after.start
