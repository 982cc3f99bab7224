use Rattle.std.proofs.Common.{◌≡◌, ◌<◌, ◌≤◌, ℕ, List, length, subst}
use Rattle.um_model.specs.Plan.{IsPlan}
use Rattle.um_graph.specs.Graph.{IsNumberOf}
use Rattle.um_jobs.specs.Named.{jobs_at, jobs_by}
use Rattle.um_transact.specs.Transaction.{TransactionView, scene_in}
use Rattle.um_transact.specs.Transaction.{transaction}
use Rattle.um_transact.proofs.PlanLaws.{past_stays, planned_for}
use Rattle.um_transact.proofs.plan.Transaction.plan.Goals as goal

pub returns-clause-long : goal.returns-clause-long
returns-clause-long c = subst (λ (v : TransactionView). length v.plan ≡ length v.graph.names) c.self.view_is c.self.invariant.long

pub returns-clause-planned : goal.returns-clause-planned
returns-clause-planned c =
    let s = c.self.inside in
    subst (λ (v : TransactionView). (name : List ℕ) → IsNumberOf v.graph v.root.1 name → IsPlan (scene_in v) (v.root.0, name) (jobs_by v.graph.names v.plan)) c.self.view_is
    (planned_for s.graph.now s.activity.now s.pending.now s.root s.marks.items s.plan c.self.invariant)

pub returns-clause-past : goal.returns-clause-past
returns-clause-past c =
    let s = c.self.inside in
    subst (λ (v : TransactionView). length v.graph.names ≤ v.root.1 → (u : ℕ) → u < length v.graph.names → jobs_at v.plan u ≡ jobs_at v.pending u) c.self.view_is
    (past_stays (transaction s.graph.now s.activity.now s.pending.now s.root s.plan) s.marks.items c.self.invariant)
