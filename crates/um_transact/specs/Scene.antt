-- A transaction over a graph: its scene by the names of units, the pending jobs that a plan stands for, and the promise of the answer.
-- Follows the definitions of plans: it puts a graph in their place.
-- The one public call stands on this file.
use Rattle.std.specs.Prelude.{◌≡◌, ℕ, List, Some, slice_get}
use Rattle.um_model.specs.Dependencies.{loadable_of}
use Rattle.um_model.specs.Jobs.{Job, ComesBefore}
use Rattle.um_model.specs.Machine as machine
use Rattle.um_model.specs.Order.{IsCycle}
use Rattle.um_model.specs.Plan.{Scene, IsPlan, CausesOfPlan}
use Rattle.um_model.specs.Refusals.{Refused}
use Rattle.um_model.specs.Service.{ByUnit}
use Rattle.um_model.specs.Units.{LoadedUnit}
use Rattle.um_model.specs.declared.commands.JobMode.{JobMode}
use Rattle.um_model.specs.declared.dependencies.Demand.{Demand}
use Rattle.um_model.specs.declared.jobs.UnitJobs.{UnitJobs}
use Rattle.um_model.specs.declared.service.ActiveState.{ActiveState}
use Rattle.um_model.specs.declared.service.ActiveState.TheVariants.{Inactive}
use Rattle.um_unit.specs.View.{loading_of}
use Rattle.um_unit.specs.declared.loaded.Loading.{Loading}
use Rattle.um_graph.specs.Graph.{GraphView, IsNumberOf}
use Rattle.um_graph.specs.Kinds.{bit_of, before_bit}
use Rattle.um_graph.specs.Named.{Joins, item_for}
use Rattle.um_jobs.specs.Named.{jobs_by}

-- this is the outcome of the look-up for the unit
pub record IsFound (g : GraphView) (x : List ℕ) (loading : Loading) : Type 0 where
  pub number : ℕ
  pub known : IsNumberOf g number x
  pub held : slice_get g.loadings number ≡ Some loading

-- the unit can be loaded
pub record IsLoadable (g : GraphView) (x : List ℕ) : Type 0 where
  pub loading : Loading
  pub found : IsFound g x loading
  pub unit : LoadedUnit
  pub loads : loadable_of (loading_of loading) ≡ Some unit

-- why the unit can't be started
pub record CannotStart (g : GraphView) (x : List ℕ) (r : Refused) : Type 0 where
  pub loading : Loading
  pub found : IsFound g x loading
  pub cause : machine.CannotStart x (loading_of loading) r

-- the scene of a transaction over this graph, with the active state and the pending jobs of each unit, by number
abbrev pub scene_of : GraphView → List ActiveState → List UnitJobs → Scene
scene_of g activity pending = record {
  Depends = λ kind x y. Joins g (bit_of kind) x y;
  IsBefore = λ x y. Joins g before_bit x y;
  IsLoadable = λ x. IsLoadable g x;
  CannotStart = λ x r. CannotStart g x r;
  activity = λ x. item_for Inactive g.names activity x;
  pending = jobs_by g.names pending;
}

-- the pending jobs are the plan, which nothing refuses and whose jobs have no cycle at all
pub record IsAccepted (scene : Scene) (root : Demand × List ℕ) (mode : JobMode) (after : ByUnit UnitJobs) : Type 0 where
  pub plan : IsPlan scene root after
  pub unrefused : (r : Refused) → ¬ CausesOfPlan scene root mode after r
  pub free : (cycle : List Job) → ¬ IsCycle (ComesBefore scene.IsBefore after) cycle

-- there is the plan, and it is refused for the first cause that holds
pub record IsRefused (scene : Scene) (root : Demand × List ℕ) (mode : JobMode) (r : Refused) : Type 0 where
  pub after : ByUnit UnitJobs
  pub plan : IsPlan scene root after
  pub cause : CausesOfPlan scene root mode after r
