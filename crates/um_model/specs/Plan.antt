-- The pending jobs after a transaction, and why a transaction is refused.
-- Follows systemctl(1), "start", "stop", "restart" and "--job-mode=".
-- The machine depends on this file.
use Rattle.std.specs.Prelude.{◌≡◌, ◌⊎◌, ℕ, ⊤, List, [], ◌∷◌, map as each, All, Option, Some, None}
use Rattle.um_model.specs.Least.{NamesLeast, IsNamedBefore}
use Rattle.um_model.specs.Refusals.{Refused, FirstCause, clash, job_conflict, ordering_cycle}
use Rattle.um_model.specs.Order.{IsCycle}
use Rattle.um_model.specs.Service.{ByUnit}
use Rattle.um_model.specs.Jobs.{Job, jobs_of_unit, AreTidyJobs, jobs_for, DropsOne, ComesBefore}
use Rattle.um_model.specs.Demands.{IsDemanded}
use Rattle.um_model.specs.declared.commands.JobMode.{JobMode}
use Rattle.um_model.specs.declared.commands.JobMode.TheVariants.{Fail}
use Rattle.um_model.specs.declared.dependencies.Demand.{Demand}
use Rattle.um_model.specs.declared.dependencies.Demand.TheVariants.{Start, Stop, Restart}
use Rattle.um_model.specs.declared.dependencies.DependencyKind.{DependencyKind}
use Rattle.um_model.specs.declared.jobs.UnitJobs.{UnitJobs}
use Rattle.um_model.specs.declared.service.ActiveState.{ActiveState}
use Rattle.um_model.specs.declared.service.ActiveState.TheVariants.{Active}

-- a transaction is made from a scene: the dependencies, the order, which units can be loaded, why a unit can't be started, the active
-- state of each unit, and the pending jobs
pub record Scene : Type 1 where
  pub Depends : DependencyKind → List ℕ → List ℕ → Type 0
  pub IsBefore : List ℕ → List ℕ → Type 0
  pub IsLoadable : List ℕ → Type 0
  pub CannotStart : List ℕ → Refused → Type 0
  pub activity : List ℕ → ActiveState
  pub pending : ByUnit UnitJobs

abbrev pub IsActive : Scene → List ℕ → Type 0
IsActive scene unit = scene.activity unit ≡ Active

-- the demands that follow from the one demand on the one unit
abbrev pub Demands : Scene → Demand × List ℕ → Demand × List ℕ → Type 0
Demands scene = IsDemanded scene.Depends (IsActive scene) scene.IsLoadable

-- ---- the pending jobs after the transaction

-- the demand that counts for a unit: a restart before a start, and a start before a stop
pub data Counts (scene : Scene) (root : Demand × List ℕ) (unit : List ℕ) : Option Demand → Type 0 where
  restarted : Demands scene root (Restart, unit) → Counts scene root unit (Some Restart)
  started : ¬ Demands scene root (Restart, unit) → Demands scene root (Start, unit) → Counts scene root unit (Some Start)
  stopped : ¬ Demands scene root (Restart, unit) → ¬ Demands scene root (Start, unit) → Demands scene root (Stop, unit) → Counts scene root unit (Some Stop)
  left : ¬ Demands scene root (Restart, unit) → ¬ Demands scene root (Start, unit) → ¬ Demands scene root (Stop, unit) → Counts scene root unit None

-- the pending jobs of each unit are those after the demand that counts for it
pub record IsPlan (scene : Scene) (root : Demand × List ℕ) (after : ByUnit UnitJobs) : Type 0 where
  pub tidy : AreTidyJobs after
  pub jobs : (unit : List ℕ) (counted : Option Demand) → Counts scene root unit counted
      → jobs_of_unit after unit ≡ jobs_for counted (scene.activity unit) (jobs_of_unit scene.pending unit)

-- ---- refusals

-- the unit is started or restarted
abbrev pub IsStarted : Scene → Demand × List ℕ → List ℕ → Type 0
IsStarted scene root unit = Demands scene root (Start, unit) ⊎ Demands scene root (Restart, unit)

-- the unit is started, and can't be
pub record IsBarred (scene : Scene) (root : Demand × List ℕ) (unit : List ℕ) : Type 0 where
  pub started : IsStarted scene root unit
  pub refusal : Refused
  pub cause : scene.CannotStart unit refusal

-- the unit is both started and stopped
pub record Clashes (scene : Scene) (root : Demand × List ℕ) (unit : List ℕ) : Type 0 where
  pub started : IsStarted scene root unit
  pub stopped : Demands scene root (Stop, unit)

-- E10 of the least unit of which a job would be dropped, in mode fail
pub record NamesDrop (mode : JobMode) (before after : ByUnit UnitJobs) (r : Refused) : Type 0 where
  pub fails : mode ≡ Fail
  pub names : NamesLeast (λ unit. DropsOne (jobs_of_unit before unit) (jobs_of_unit after unit)) (λ unit r. r ≡ job_conflict unit) r

-- none of the list stands before its first
abbrev pub BeginsWithLeast : List (List ℕ) → Type 0
BeginsWithLeast [] = ⊤
BeginsWithLeast (x ∷ xs) = All (λ y. ¬ IsNamedBefore y x) xs

abbrev pub units_of : List Job → List (List ℕ)
units_of cycle = each (λ (j : Job). j.unit) cycle

-- no pending jobs wait for one another in a circle
abbrev pub AreFree : (List ℕ → List ℕ → Type 0) → ByUnit UnitJobs → Type 0
AreFree IsBefore pending = (cycle : List Job) → ¬ IsCycle (ComesBefore IsBefore pending) cycle

-- E9: the pending jobs would wait for one another in a circle; its units, from the least one on
pub record NamesCycle (IsBefore : List ℕ → List ℕ → Type 0) (pending : ByUnit UnitJobs) (r : Refused) : Type 0 where
  pub cycle : List Job
  pub closed : IsCycle (ComesBefore IsBefore pending) cycle
  pub least : BeginsWithLeast (units_of cycle)
  pub refusal : r ≡ ordering_cycle (units_of cycle)

-- why the plan is refused: E4 to E6 of the least unit that can't be started, E8 of the least that clashes, E10, E9
abbrev pub CausesOfPlan : Scene → Demand × List ℕ → JobMode → ByUnit UnitJobs → Refused → Type 0
CausesOfPlan scene root mode after =
    FirstCause (NamesLeast (IsBarred scene root) scene.CannotStart)
    (FirstCause (NamesLeast (Clashes scene root) (λ unit r. r ≡ clash unit))
    (FirstCause (NamesDrop mode scene.pending after) (NamesCycle scene.IsBefore after)))
