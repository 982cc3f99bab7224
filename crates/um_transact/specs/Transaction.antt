-- A transaction before anything refuses it: its scene, and the pending jobs after it.
-- Follows the definitions of plans: it states them over a graph.
-- The public calls stand on this file.
use Rattle.std.specs.Prelude.{◌≡◌, ℕ, ◌<◌, ◌≤◌, ◌↔◌, List, [], length}
use Rattle.um_model.specs.Plan.{Scene}
use Rattle.um_model.specs.declared.dependencies.Demand.{Demand}
use Rattle.um_model.specs.declared.jobs.UnitJobs.{UnitJobs}
use Rattle.um_model.specs.declared.service.ActiveState.{ActiveState}
use Rattle.um_graph.specs.Graph.{GraphView, IsGraph}
use Rattle.um_jobs.specs.Named.{jobs_at}
use Rattle.um_transact.specs.Checks.{planned_at}
use Rattle.um_transact.specs.Scene.{scene_of}
use Rattle.um_transact.specs.Situation.{IsDemandedBy}
use Rattle.um_transact.specs.Walk.{Demanded, IsMarked}
use Rattle.um_transact.specs.declared.walk.Marks.{Marks}

-- a graph, how active its units are and their pending jobs, by number; the demand on one of them, and the jobs after it
pub record TransactionView : Type 0 where
  pub graph : GraphView
  pub activity : List ActiveState
  pub pending : List UnitJobs
  pub root : Demand × ℕ
  pub plan : List UnitJobs

abbrev pub transaction : GraphView → List ActiveState → List UnitJobs → Demand × ℕ → List UnitJobs → TransactionView
transaction graph activity pending root plan = record { graph = graph; activity = activity; pending = pending; root = root; plan = plan }

-- its scene, by the names of units
abbrev pub scene_in : TransactionView → Scene
scene_in t = scene_of t.graph t.activity t.pending

-- its marks are just the demands that its demand brings, none if its unit is past the last one; and its jobs are those after that
pub record IsMade (marks : List Marks) (t : TransactionView) : Type 0 where
  pub graph : IsGraph t.graph
  pub marked : t.root.1 < length t.graph.names → (q : Demanded) → IsMarked marks q ↔ IsDemandedBy t.graph t.activity t.root q
  pub past : length t.graph.names ≤ t.root.1 → marks ≡ []
  pub long : length t.plan ≡ length t.graph.names
  pub each : (u : ℕ) → u < length t.graph.names → jobs_at t.plan u ≡ planned_at marks t.activity t.pending u
