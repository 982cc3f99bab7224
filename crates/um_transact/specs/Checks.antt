-- The checks of a plan, one unit after another: which refusal a unit gives, and the result of a check over all of them.
-- Follows the definition of why a plan is refused: it states it by numbers.
-- The order of refusals stands on this file.
use Rattle.std.specs.Prelude.{◌≡◌, ◌≢◌, ℕ, ◌<◌, ◌||◌, if◌then◌else◌, Bool, true, List, Option, Some, None, Result, Ok, Err, slice_get}
use Rattle.um_model.specs.Jobs.{Job, ComesBefore, jobs_for}
use Rattle.um_model.specs.Machine.{CannotStart}
use Rattle.um_model.specs.Order.{IsCycle}
use Rattle.um_model.specs.Plan.{NamesCycle}
use Rattle.um_model.specs.Refusals.{Refused, clash, job_conflict}
use Rattle.um_model.specs.Service.{ByUnit}
use Rattle.um_model.specs.declared.commands.JobMode.{JobMode}
use Rattle.um_model.specs.declared.commands.JobMode.TheVariants.{Fail}
use Rattle.um_model.specs.declared.dependencies.Demand.{Demand}
use Rattle.um_model.specs.declared.dependencies.Demand.TheVariants.{Start, Stop, Restart}
use Rattle.um_model.specs.declared.jobs.UnitJobs.{UnitJobs}
use Rattle.um_model.specs.declared.service.ActiveState.{ActiveState}
use Rattle.um_unit.specs.View.{loading_of}
use Rattle.um_unit.specs.declared.loaded.Loading.{Loading}
use Rattle.um_wire.specs.Refusal.{refused_of}
use Rattle.um_wire.specs.declared.refusal.Refusal.{Refusal}
use Rattle.um_wire.specs.declared.refusal.Refusal.TheVariants.{NoMemory}
use Rattle.um_graph.specs.Graph.{GraphView, IsNumberOf}
use Rattle.um_jobs.specs.Named.{jobs_at}
use Rattle.um_jobs.specs.Drops.{drops_one}
use Rattle.um_transact.specs.Walk.{activity_at, marks_at}
use Rattle.um_transact.specs.declared.walk.Marks.{Marks}

-- which demand counts for a unit with these marks
abbrev pub counted : Marks → Option Demand
counted m = if m.restart then Some Restart else (if m.start then Some Start else (if m.stop then Some Stop else None))

-- the jobs of a unit after the demand that counts for it
abbrev pub planned_at : List Marks → List ActiveState → List UnitJobs → ℕ → UnitJobs
planned_at marks activity pending u = jobs_for (counted (marks_at marks u)) (activity_at activity u) (jobs_at pending u)

abbrev pub is_started : Marks → Bool
is_started m = m.start || m.restart

-- ---- one unit

-- the unit can't be started
pub record CannotStartBy (g : GraphView) (u : ℕ) (r : Refused) : Type 0 where
  pub name : List ℕ
  pub known : IsNumberOf g u name
  pub loading : Loading
  pub held : slice_get g.loadings u ≡ Some loading
  pub cause : CannotStart name (loading_of loading) r

-- it is started, and can't be
pub record BarsBy (g : GraphView) (marks : List Marks) (u : ℕ) (r : Refused) : Type 0 where
  pub started : is_started (marks_at marks u) ≡ true
  pub cause : CannotStartBy g u r

-- it is started and stopped
pub record ClashesBy (g : GraphView) (marks : List Marks) (u : ℕ) (r : Refused) : Type 0 where
  pub started : is_started (marks_at marks u) ≡ true
  pub stopped : (marks_at marks u).stop ≡ true
  pub name : List ℕ
  pub known : IsNumberOf g u name
  pub refusal : r ≡ clash name

-- one of its jobs is dropped, in mode fail
pub record DropsBy (g : GraphView) (mode : JobMode) (pending plan : List UnitJobs) (u : ℕ) (r : Refused) : Type 0 where
  pub fails : mode ≡ Fail
  pub drops : drops_one (jobs_at pending u) (jobs_at plan u) ≡ true
  pub name : List ℕ
  pub known : IsNumberOf g u name
  pub refusal : r ≡ job_conflict name

-- ---- all units

-- the refusal of the first unit that gives one
pub record RefusesFirst (Refuses : ℕ → Refused → Type 0) (n : ℕ) (r : Refused) : Type 0 where
  pub unit : ℕ
  pub within : unit < n
  pub cause : Refuses unit r
  pub first : (v : ℕ) → v < unit → (q : Refused) → ¬ Refuses v q

-- a check of the units below n passes if none gives a refusal, or refuses for the first that does; or it lacks memory
abbrev pub ChecksBy : {X : Type 0} → (ℕ → Refused → Type 0) → ℕ → Result X Refusal → Type 0
ChecksBy Refuses n (Ok done) = (u : ℕ) → u < n → (r : Refused) → ¬ Refuses u r
ChecksBy Refuses n (Err e) = (e ≢ NoMemory) → RefusesFirst Refuses n (refused_of e)

-- the jobs have no cycle, or E9 names one; or memory lacks
abbrev pub OrdersBy : {X : Type 0} → (List ℕ → List ℕ → Type 0) → ByUnit UnitJobs → Result X Refusal → Type 0
OrdersBy IsBefore after (Ok done) = (cycle : List Job) → ¬ IsCycle (ComesBefore IsBefore after) cycle
OrdersBy IsBefore after (Err e) = (e ≢ NoMemory) → NamesCycle IsBefore after (refused_of e)
