use Rattle.std.proofs.Common.{◌≡◌, ℕ, List, Result, sym, subst}
use Rattle.um_model.specs.Plan.{CausesOfPlan}
use Rattle.um_model.specs.declared.commands.JobMode.{JobMode}
use Rattle.um_model.specs.declared.dependencies.Demand.{Demand}
use Rattle.um_model.specs.declared.jobs.UnitJobs.{UnitJobs}
use Rattle.um_model.specs.declared.service.ActiveState.{ActiveState}
use Rattle.um_graph.specs.Graph.{IsNumberOf}
use Rattle.um_jobs.specs.Named.{jobs_by}
use Rattle.um_wire.specs.Gives.{RefusesBy}
use Rattle.um_wire.specs.declared.refusal.Refusal.{Refusal}
use Rattle.um_transact.specs.Scene.{scene_of}
use Rattle.um_transact.specs.Transaction.{IsMade, TransactionView, scene_in, transaction}
use Rattle.um_transact.specs.declared.plan.Transaction.TheInside.{Inside}
use Rattle.um_transact.specs.declared.walk.Marks.{Marks}
use Rattle.um_transact.proofs.plan.Transaction.check.Goals as goal

-- the check of the parts is that of the transaction
module _ {X : Type 0} (result : Result X Refusal) (mode : JobMode) (x s : Inside) (is : x ≡ s) (marks : List Marks) (plan : List UnitJobs) (marks_is : marks ≡ x.marks.items)
    (plan_is : plan ≡ x.plan) (made : IsMade s.marks.items (transaction s.graph.now s.activity.now s.pending.now s.root s.plan)) where
  abbrev Refuses : Inside → Type 0
  Refuses x = (name : List ℕ) → IsNumberOf x.graph.now x.root.1 name
      → RefusesBy (CausesOfPlan (scene_of x.graph.now x.activity.now x.pending.now) (x.root.0, name) mode (jobs_by x.graph.now.names x.plan)) result

  made_here : IsMade marks (transaction x.graph.now x.activity.now x.pending.now x.root plan)
  made_here =
      subst (λ ms. IsMade ms (transaction x.graph.now x.activity.now x.pending.now x.root plan)) (sym marks_is)
      (subst (λ p. IsMade x.marks.items (transaction x.graph.now x.activity.now x.pending.now x.root p)) (sym plan_is)
      (subst (λ (y : Inside). IsMade y.marks.items (transaction y.graph.now y.activity.now y.pending.now y.root y.plan)) (sym is) made))

  checked : ((activity : List ActiveState) (root : Demand × ℕ) (name : List ℕ) → IsMade marks (transaction x.graph.now activity x.pending.now root plan)
      → IsNumberOf x.graph.now root.1 name → RefusesBy (CausesOfPlan (scene_of x.graph.now activity x.pending.now) (root.0, name) mode (jobs_by x.graph.now.names plan)) result)
      → Refuses s
  checked told =
      subst Refuses is
      (λ name number.
      subst (λ (p : List UnitJobs). RefusesBy (CausesOfPlan (scene_of x.graph.now x.activity.now x.pending.now) (x.root.0, name) mode (jobs_by x.graph.now.names p)) result) plan_is
      (told x.activity.now x.root name made_here number))

pub returns-clause-causes : goal.returns-clause-causes
returns-clause-causes c =
    subst (λ (v : TransactionView). (name : List ℕ) → IsNumberOf v.graph v.root.1 name
    → RefusesBy (CausesOfPlan (scene_in v) (v.root.0, name) c.args.mode (jobs_by v.graph.names v.plan)) c.check_plan.result) c.self.view_is
    (checked c.check_plan.result c.args.mode _ c.self.inside c.self-inside.view_is c.deref.result.now c.deref-2.result.now c.deref.ensures.value c.deref-2.ensures.value c.self.invariant
    c.check_plan.ensures)
