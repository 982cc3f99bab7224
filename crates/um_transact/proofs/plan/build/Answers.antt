use Rattle.std.proofs.Common.{◌≡◌, ◌≢◌, ℕ, List, sym, subst}
use Rattle.um_model.specs.Plan.{IsPlan}
use Rattle.um_model.specs.declared.jobs.UnitJobs.{UnitJobs}
use Rattle.um_graph.specs.Graph.{IsNumberOf}
use Rattle.um_jobs.specs.Named.{jobs_by}
use Rattle.um_wire.specs.Refusal.{refused_of}
use Rattle.um_wire.specs.declared.refusal.Refusal.{Refusal}
use Rattle.um_wire.specs.declared.refusal.Refusal.TheVariants.{NoMemory}
use Rattle.um_transact.specs.Scene.{IsAccepted, IsRefused, scene_of}
use Rattle.um_transact.specs.Transaction.{TransactionView, scene_in, transaction}
use Rattle.um_transact.proofs.CheckLaws.{err_is}
use Rattle.um_transact.proofs.PlanLaws.{accepted_for, made_from, planned_for, refused_with}
use Rattle.um_transact.proofs.plan.build.Goals as goal

pub returns-in_err-check-clause-refused : goal.returns-in_err-check-clause-refused
returns-in_err-check-clause-refused c =
    let g = c.args.graph.now in
    let t : TransactionView = c.in_ok-transaction.transaction in
    let s = c.transaction.inside in
    let e = c.in_err-check.field-0.0 in
    let same : t ≡ transaction g c.args.activity.now c.args.pending.now (c.args.demand, c.args.unit) t.plan =
    made_from t g c.args.activity.now c.args.pending.now (c.args.demand, c.args.unit) c.in_ok-transaction.ensures.graph c.in_ok-transaction.ensures.activity
    c.in_ok-transaction.ensures.pending c.in_ok-transaction.ensures.root in
    let planned : (name : List ℕ) → IsNumberOf t.graph t.root.1 name → IsPlan (scene_in t) (t.root.0, name) (jobs_by t.graph.names t.plan) =
    subst (λ (v : TransactionView). (name : List ℕ) → IsNumberOf v.graph v.root.1 name → IsPlan (scene_in v) (v.root.0, name) (jobs_by v.graph.names v.plan)) c.transaction.view_is
    (planned_for s.graph.now s.activity.now s.pending.now s.root s.marks.items s.plan c.transaction.invariant) in
    let step : e ≢ NoMemory → (name : List ℕ) → IsNumberOf g c.args.unit name
    → IsRefused (scene_of g c.args.activity.now c.args.pending.now) (c.args.demand, name) c.args.mode (refused_of e) =
    λ differs.
    subst (λ (v : TransactionView). (name : List ℕ) → IsNumberOf v.graph v.root.1 name → IsRefused (scene_in v) (v.root.0, name) c.args.mode (refused_of e)) same
    (refused_with t c.args.mode (refused_of e) planned (λ name number. c.in_err-check.ensures.causes name number differs)) in
    err_is
    (λ (f : Refusal). f ≢ NoMemory → (name : List ℕ) → IsNumberOf g c.args.unit name
    → IsRefused (scene_of g c.args.activity.now c.args.pending.now) (c.args.demand, name) c.args.mode (refused_of f))
    c.from_residual-in_err-check.result e c.from_residual-in_err-check.ensures.1 step

pub returns-clause-accepted : goal.returns-clause-accepted
returns-clause-accepted c =
    let g = c.args.graph.now in
    let t : TransactionView = c.in_ok-transaction.transaction in
    let same : t ≡ transaction g c.args.activity.now c.args.pending.now (c.args.demand, c.args.unit) t.plan =
    made_from t g c.args.activity.now c.args.pending.now (c.args.demand, c.args.unit) c.in_ok-transaction.ensures.graph c.in_ok-transaction.ensures.activity
    c.in_ok-transaction.ensures.pending c.in_ok-transaction.ensures.root in
    subst (λ (p : List UnitJobs). (name : List ℕ) → IsNumberOf g c.args.unit name
    → IsAccepted (scene_of g c.args.activity.now c.args.pending.now) (c.args.demand, name) c.args.mode (jobs_by g.names p)) (sym c.into_plan.ensures.plan)
    (subst (λ (v : TransactionView). (name : List ℕ) → IsNumberOf v.graph v.root.1 name → IsAccepted (scene_in v) (v.root.0, name) c.args.mode (jobs_by v.graph.names t.plan)) same
    (accepted_for t c.args.mode c.into_plan.ensures.planned c.in_ok-check.ensures.causes))
