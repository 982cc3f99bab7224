-- A state's activity and pending jobs, by the numbers of a graph's units.
-- Follows no manual page: it turns numbers into names.
-- Plans stand on this file.
use Rattle.std.specs.Prelude.{◌≡◌, ℕ, List}
use Rattle.um_model.specs.Jobs.{jobs_of_unit}
use Rattle.um_model.specs.Machine.{State, TakesEffect, Commanded, Command, Refuses, IsHeldOr, IsTooHeavy, scene_at}
use Rattle.um_model.specs.Plan.{IsPlan}
use Rattle.um_model.specs.Refusals.{Refused, no_room}
use Rattle.um_model.specs.Service.{Action, active_state_of, state_of_unit}
use Rattle.um_model.specs.declared.dependencies.Demand.{Demand}
use Rattle.um_model.specs.declared.jobs.UnitJobs.{UnitJobs}
use Rattle.um_model.specs.declared.service.ActiveState.{ActiveState}
use Rattle.um_graph.specs.Graph.{GraphView, IsNumberOf}
use Rattle.um_jobs.specs.Named.{jobs_at}
use Rattle.um_model.specs.declared.profile.Profile.{Profile}
use Rattle.um_transact.specs.Transaction.{TransactionView}
use Rattle.um_transact.specs.Walk.{activity_at}
use Rattle.um_engine.specs.Known.{IsGraphFor}

-- by number: how active the units are
abbrev pub AreActive : GraphView → State → List ActiveState → Type 0
AreActive g s activity = (i : ℕ) (x : List ℕ) → IsNumberOf g i x → activity_at activity i ≡ active_state_of (state_of_unit s.units x).sub

-- and their pending jobs
abbrev pub ArePending : GraphView → State → List UnitJobs → Type 0
ArePending g s pending = (i : ℕ) (x : List ℕ) → IsNumberOf g i x → jobs_at pending i ≡ jobs_of_unit s.pending x

-- the state has the jobs of the plan for the demand
pub record HasPlan (s : State) (root : Demand × List ℕ) (u : State) : Type 0 where
  pub plan : IsPlan (scene_at s root.1) root u.pending
  pub rest : u ≡ record s { pending = u.pending }

-- the transaction is made from what counts in the state for the demand on the unit of that name
pub record IsTransactionFor (s : State) (root : Demand × List ℕ) (t : TransactionView) : Type 0 where
  pub exact : IsGraphFor s.loaded (IsHeldOr s root.1) t.graph
  pub active : AreActive t.graph s t.activity
  pub pends : ArePending t.graph s t.pending
  pub number : IsNumberOf t.graph t.root.1 root.1
  pub demand : t.root.0 ≡ root.0

-- a command of an input of this profile is refused for a cause of its own, or for want of room for the state that it leads to
pub data Declines (profile : Profile) (size t : ℕ) (s : State) (command : Command) : Refused → Type 0 where
  for_cause : {r : Refused} → Refuses profile s command r → Declines profile size t s command r
  for_room : {actions : List Action} {u : State} → TakesEffect profile t s (Commanded command) actions u → IsTooHeavy size u
      → Declines profile size t s command no_room
