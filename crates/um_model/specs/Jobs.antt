-- Pending jobs: the jobs of a unit after a demand on it, and which job is ready to begin.
-- Follows systemctl(1), "start" and "stop", and systemd.unit(5), "Before=".
-- The machine depends on this file.
use Rattle.std.specs.Prelude.{◌≡◌, ◌≢◌, ℕ, Bool, true, false, ◌||◌, if◌then◌else◌, List, [], ◌∷◌, ◌++◌, flat_map, Option, Some, None, is_some, unwrap_or, codes}
use Rattle.std.specs.FinMap as map
use Rattle.std.specs.Option.{option_map_or}
use Rattle.um_model.specs.Least.{IsLeast, IsNamedBefore}
use Rattle.um_model.specs.Service.{ByUnit, active_state_of, state_of_unit}
use Rattle.um_model.specs.declared.dependencies.Demand.{Demand}
use Rattle.um_model.specs.declared.dependencies.Demand.TheVariants as demands
use Rattle.um_model.specs.declared.jobs.JobKind.{JobKind}
use Rattle.um_model.specs.declared.jobs.JobKind.TheVariants.{Stop, Start}
use Rattle.um_model.specs.declared.jobs.JobState.{JobState}
use Rattle.um_model.specs.declared.jobs.JobState.TheVariants.{Waiting, Running}
use Rattle.um_model.specs.declared.jobs.UnitJobs.{UnitJobs}
use Rattle.um_model.specs.declared.service.ActiveState.{ActiveState}
use Rattle.um_model.specs.declared.service.ActiveState.TheVariants.{Inactive, Active, Deactivating, Failed}
use Rattle.um_model.specs.declared.service.UnitState.{UnitState}
use Rattle.um_model.specs.declared.transition.StartJob.{StartJob}
use Rattle.um_model.specs.declared.transition.StartJob.TheVariants.{Stays}

abbrev pub jobs : Option JobState → Option JobState → UnitJobs
jobs stop start = record { stop = stop; start = start }

abbrev pub no_jobs : UnitJobs
no_jobs = jobs None None

-- the pending jobs of a unit
abbrev pub jobs_of_unit : ByUnit UnitJobs → List ℕ → UnitJobs
jobs_of_unit pending unit = unwrap_or (map.get pending unit) no_jobs

abbrev pub has_job : UnitJobs → Bool
has_job j = is_some j.stop || is_some j.start

-- the pending jobs, with these jobs of a unit; a unit without a job isn't held
abbrev pub with_jobs : ByUnit UnitJobs → List ℕ → UnitJobs → ByUnit UnitJobs
with_jobs pending unit j = if has_job j then map.insert pending unit j else map.remove pending unit

-- no unit is held without a pending job
abbrev pub AreTidyJobs : ByUnit UnitJobs → Type 0
AreTidyJobs pending = (unit : List ℕ) → map.get pending unit ≢ Some no_jobs

-- the job of this kind
abbrev pub job_of : JobKind → UnitJobs → Option JobState
job_of Stop j = j.stop
job_of Start j = j.start

-- ---- the jobs of a unit after a demand on it

-- neither inactive nor failed
abbrev pub is_up : ActiveState → Bool
is_up Inactive = false
is_up Failed = false
is_up other = true

abbrev pub is_active : ActiveState → Bool
is_active Active = true
is_active other = false

-- start: if a start job is pending all stays as it is; else a stop job that waits is dropped, one that runs stays, and a start job is
-- put, unless the unit is active and no stop job remains
abbrev pub started : ActiveState → Option JobState → Option JobState → UnitJobs
started a stop (Some start) = jobs stop (Some start)
started a (Some Running) None = jobs (Some Running) (Some Waiting)
started a other None = jobs None (if is_active a then None else Some Waiting)

-- stop: the start job is dropped; a stop job is put if none is pending and the unit is up
abbrev pub stopped : ActiveState → Option JobState → UnitJobs
stopped a (Some stop) = jobs (Some stop) None
stopped a None = jobs (if is_up a then Some Waiting else None) None

-- the pending jobs of a unit in this state after a demand on it, if there is one. By a restart of a unit that is up a start job that runs
-- is dropped, a stop job is put if none is pending, and a start job if none waits; a restart of one that is down is a start
abbrev pub jobs_for : Option Demand → ActiveState → UnitJobs → UnitJobs
jobs_for None a j = j
jobs_for (Some demands.Start) a j = started a j.stop j.start
jobs_for (Some demands.Stop) a j = stopped a j.stop
jobs_for (Some demands.Restart) a j = if is_up a then jobs (Some (unwrap_or j.stop Waiting)) (Some Waiting) else started a j.stop j.start

-- ---- the jobs that a cancel leaves

abbrev pub unless_waiting : Option JobState → Option JobState
unless_waiting (Some Waiting) = None
unless_waiting other = other

-- the jobs of a unit without those that wait
abbrev pub cancelled : UnitJobs → UnitJobs
cancelled j = jobs (unless_waiting j.stop) (unless_waiting j.start)

-- the jobs of a unit without its start job
abbrev pub without_start : UnitJobs → UnitJobs
without_start j = jobs j.stop None

-- one of the jobs is dropped: it is there no more, or no more as it was
pub data DropsOne (before after : UnitJobs) : Type 0 where
  drops : (kind : JobKind) (state : JobState) → job_of kind before ≡ Some state → job_of kind after ≢ Some state → DropsOne before after

-- ---- which job begins

-- a job: its unit and its kind
pub record Job : Type 0 where
  pub unit : List ℕ
  pub kind : JobKind

abbrev pub stop_job : List ℕ → Job
stop_job unit = record { unit = unit; kind = Stop }

abbrev pub start_job : List ℕ → Job
start_job unit = record { unit = unit; kind = Start }

-- one job goes before another by an order of units: of two units in order, starts go in that order and stops against it, and the stop of
-- either goes before the start of the other; of one unit the stop job goes first
pub data GoesBefore (IsBefore : List ℕ → List ℕ → Type 0) : Job → Job → Type 0 where
  starts : {x y : List ℕ} → IsBefore x y → GoesBefore IsBefore (start_job x) (start_job y)
  stops : {x y : List ℕ} → IsBefore x y → GoesBefore IsBefore (stop_job y) (stop_job x)
  stops_then_starts : {x y : List ℕ} → IsBefore x y → GoesBefore IsBefore (stop_job x) (start_job y)
  stops_then_starts_before : {x y : List ℕ} → IsBefore x y → GoesBefore IsBefore (stop_job y) (start_job x)
  of_one_unit : {x : List ℕ} → GoesBefore IsBefore (stop_job x) (start_job x)

-- how far a job is, if it is pending
abbrev pub state_of_job : ByUnit UnitJobs → Job → Option JobState
state_of_job pending job = job_of job.kind (jobs_of_unit pending job.unit)

abbrev pub IsPending : ByUnit UnitJobs → Job → Type 0
IsPending pending job = state_of_job pending job ≢ None

-- a pending job comes before one that waits: nothing comes before a job that runs
pub record ComesBefore (IsBefore : List ℕ → List ℕ → Type 0) (pending : ByUnit UnitJobs) (job other : Job) : Type 0 where
  pub pends : IsPending pending job
  pub waits : state_of_job pending other ≡ Some Waiting
  pub goes : GoesBefore IsBefore job other

-- a job is ready: it waits, none comes before it, and one that starts its unit doesn't find it deactivating
pub record IsReady (IsBefore : List ℕ → List ℕ → Type 0) (units : ByUnit UnitState) (pending : ByUnit UnitJobs) (job : Job) : Type 0 where
  pub waits : state_of_job pending job ≡ Some Waiting
  pub free : (other : Job) → ¬ ComesBefore IsBefore pending other job
  pub still : job.kind ≡ Start → active_state_of (state_of_unit units job.unit).sub ≢ Deactivating

-- one job is named before another: by the names of their units, and of one unit the stop job first
pub data IsToldBefore : Job → Job → Type 0 where
  by_name : {job other : Job} → IsNamedBefore job.unit other.unit → IsToldBefore job other
  stop_first : {unit : List ℕ} → IsToldBefore (stop_job unit) (start_job unit)

-- the job that begins next: the least of those that are ready
abbrev pub BeginsNext : (IsBefore : List ℕ → List ℕ → Type 0) → ByUnit UnitState → ByUnit UnitJobs → Job → Type 0
BeginsNext IsBefore units pending = IsLeast IsToldBefore (IsReady IsBefore units pending)

abbrev pub job_kind_text : JobKind → List ℕ
job_kind_text Stop = codes "stop"
job_kind_text Start = codes "start"

abbrev pub job_state_text : JobState → List ℕ
job_state_text Waiting = codes "waiting"
job_state_text Running = codes "running"

-- a pending job as it is shown: its unit, what it does, and how far it is
pub record JobShown : Type 0 where
  pub unit : List ℕ
  pub kind : JobKind
  pub state : JobState

abbrev pub job_shown : List ℕ → JobKind → Option JobState → List JobShown
job_shown unit kind state = option_map_or (λ s. record { unit = unit; kind = kind; state = s } ∷ []) state []

-- those of a unit, its stop job first
abbrev pub jobs_shown_of : List ℕ → UnitJobs → List JobShown
jobs_shown_of unit j = job_shown unit Stop j.stop ++ job_shown unit Start j.start

-- the pending jobs in the order of the names of their units
abbrev pub jobs_shown : ByUnit UnitJobs → List JobShown
jobs_shown pending = flat_map (λ e. jobs_shown_of e.0 e.1) (map.entries pending)

-- the jobs of a unit, with the one of this kind in this state
abbrev pub with_job : JobKind → JobState → UnitJobs → UnitJobs
with_job Stop state j = jobs (Some state) j.start
with_job Start state j = jobs j.stop (Some state)

-- ---- the jobs of a unit that an event leaves

abbrev pub unless_running : Option JobState → Option JobState
unless_running (Some Running) = None
unless_running other = other

abbrev pub start_left : StartJob → Option JobState → Option JobState
start_left Stays job = job
start_left other job = unless_running job

-- the running start job is over if it ended or failed, the running stop job if it ended
abbrev pub jobs_left : StartJob → Bool → UnitJobs → UnitJobs
jobs_left start stop_ends j = jobs (if stop_ends then unless_running j.stop else j.stop) (start_left start j.start)
