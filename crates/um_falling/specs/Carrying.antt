-- The effect of an event on its unit and the unit's jobs, before a failed start takes others along, and with these.
-- Follows the definition of carrying out: it is the part of it that concerns the unit itself.
-- Carrying out stands on this file.
use Rattle.std.specs.Prelude.{◌≡◌, ◌≢◌, ◌⊎◌, ℕ, Bool, true, false, List, ◌++◌, Option, Some, None}
use Rattle.um_model.specs.Jobs.{AreTidyJobs, job_of, jobs_of_unit}
use Rattle.um_model.specs.Machine.{State, settings_in, around, change_of, changed}
use Rattle.um_model.specs.Service.{Action, AreTidyUnits, state_of_unit}
use Rattle.um_model.specs.Transitions.{AreActions}
use Rattle.um_model.specs.declared.jobs.JobKind.{JobKind}
use Rattle.um_model.specs.declared.jobs.JobState.{JobState}
use Rattle.um_model.specs.declared.jobs.JobState.TheVariants.{Running}
use Rattle.um_model.specs.declared.jobs.UnitJobs.{UnitJobs}
use Rattle.um_model.specs.declared.transition.StartJob.{StartJob}
use Rattle.um_model.specs.declared.transition.StartJob.TheVariants.{Fails}
use Rattle.um_model.specs.declared.transition.UnitEvent.{UnitEvent}

-- a start job of the unit runs, and the change fails it
abbrev pub fails_start : StartJob → Option JobState → Bool
fails_start Fails (Some Running) = true
fails_start start job = false

-- the unit is changed, and the flag says whether its start fails
pub record ChangesTo (t : ℕ) (unit : List ℕ) (event : UnitEvent) (s : State) (before : List Action) (fails : Bool) (s' : State)
    (after : List Action) : Type 0 where
  pub new : List Action
  pub state : s' ≡ changed s unit (change_of t s unit event)
  pub fails_so : fails ≡ fails_start (change_of t s unit event).start (jobs_of_unit s.pending unit).start
  pub asked : AreActions (settings_in s.loaded unit) (around t s unit) (change_of t s unit event).unit (change_of t s unit event).order new
  pub actions : after ≡ before ++ new
  pub tidy_jobs : AreTidyJobs s.pending
  pub tidy_units : AreTidyUnits s.units

-- of all other units the state is the same as before
pub record KeepsOthers (unit : List ℕ) (s s' : State) : Type 0 where
  pub jobs : (x : List ℕ) → x ≢ unit → jobs_of_unit s'.pending x ≡ jobs_of_unit s.pending x
  pub states : (x : List ℕ) → x ≢ unit → state_of_unit s'.units x ≡ state_of_unit s.units x

-- of one unit's jobs each is as it was, or is over
abbrev pub OnlyEnds : UnitJobs → UnitJobs → Type 0
OnlyEnds before after = (kind : JobKind) → (job_of kind after ≡ job_of kind before) ⊎ (job_of kind after ≡ None)

-- the relation leads to the state, and its actions follow those that were there
abbrev pub Adds : (List Action → State → Type 0) → List Action → State → List Action → Type 0
Adds Goes before s' after = (new : List Action) × Goes new s' × (after ≡ before ++ new)
