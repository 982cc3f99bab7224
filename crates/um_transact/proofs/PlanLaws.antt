-- The transaction, by the name of its unit, from the results of the checks of its plan.
use Rattle.std.proofs.Common.{◌≡◌, ◌↔◌, ◌∙◌, ◌<◌, ◌≤◌, ℕ, List, [], length, refl, ap, subst}
use Rattle.um_model.specs.Jobs.{Job, ComesBefore, jobs_for}
use Rattle.um_model.specs.Order.{IsCycle}
use Rattle.um_model.specs.Plan.{CausesOfPlan, IsPlan, NamesCycle}
use Rattle.um_model.specs.Refusals.{Refused}
use Rattle.um_model.specs.declared.commands.JobMode.{JobMode}
use Rattle.um_model.specs.declared.dependencies.Demand.{Demand}
use Rattle.um_model.specs.declared.jobs.UnitJobs.{UnitJobs}
use Rattle.um_model.specs.declared.service.ActiveState.{ActiveState}
use Rattle.um_laws.proofs.PlannedLaws.{free_of_causes}
use Rattle.um_graph.specs.Graph.{GraphView, IsNumberOf}
use Rattle.um_graph.specs.Kinds.{before_bit}
use Rattle.um_graph.specs.Named.{Joins}
use Rattle.um_graph.proofs.NamedLaws.{got_within, name_is}
use Rattle.um_jobs.specs.Named.{jobs_at, jobs_by}
use Rattle.um_transact.specs.Checks.{BarsBy, ClashesBy, DropsBy, RefusesFirst, counted, planned_at}
use Rattle.um_transact.specs.Scene.{IsAccepted, IsRefused, scene_of}
use Rattle.um_transact.specs.Situation.{IsDemandedBy}
use Rattle.um_transact.specs.Transaction.{IsMade, TransactionView, scene_in, transaction}
use Rattle.um_transact.specs.Walk.{Demanded, IsMarked, activity_at, marks_at}
use Rattle.um_transact.specs.declared.walk.Marks.{Marks}
use Rattle.um_transact.proofs.MarkedLaws.{is_plan}
use Rattle.um_transact.proofs.OutcomeLaws.{accepted, refused_bars, refused_clashes, refused_drops, refused_cycle}

-- past the last unit nothing is demanded, and the jobs don't change
unmarked_stay : (marks : List Marks) (activity : List ActiveState) (pending : List UnitJobs) (u : ℕ) → marks ≡ [] → planned_at marks activity pending u ≡ jobs_at pending u
unmarked_stay marks activity pending u none = ap (λ ms. planned_at ms activity pending u) none ∙ jobs_unasked (activity_at activity u) (jobs_at pending u)
  where
    jobs_unasked : (a : ActiveState) (j : UnitJobs) → jobs_for (counted (marks_at [] u)) a j ≡ j
    jobs_unasked a j = refl

pub past_stays : (t : TransactionView) (marks : List Marks) → IsMade marks t → length t.graph.names ≤ t.root.1 → (u : ℕ) → u < length t.graph.names
    → jobs_at t.plan u ≡ jobs_at t.pending u
past_stays t marks made past u h = made.each u h ∙ unmarked_stay marks t.activity t.pending u (made.past past)

-- a transaction, by the inputs it was made from
pub made_from : (t : TransactionView) (g : GraphView) (activity : List ActiveState) (pending : List UnitJobs) (root : Demand × ℕ) → t.graph ≡ g → t.activity ≡ activity
    → t.pending ≡ pending → t.root ≡ root → t ≡ transaction g activity pending root t.plan
made_from t g activity pending root e f h k = λ i. record { graph = e i; activity = f i; pending = h i; root = k i; plan = t.plan }

-- a transaction that isn't refused is accepted
pub accepted_for : (t : TransactionView) (mode : JobMode) → ((name : List ℕ) → IsNumberOf t.graph t.root.1 name → IsPlan (scene_in t) (t.root.0, name) (jobs_by t.graph.names t.plan))
    → ((name : List ℕ) → IsNumberOf t.graph t.root.1 name → (r : Refused) → ¬ CausesOfPlan (scene_in t) (t.root.0, name) mode (jobs_by t.graph.names t.plan) r)
    → (name : List ℕ) → IsNumberOf t.graph t.root.1 name → IsAccepted (scene_in t) (t.root.0, name) mode (jobs_by t.graph.names t.plan)
accepted_for t mode planned free name number = record {
  plan = planned name number;
  unrefused = free name number;
  free = free_of_causes (scene_in t) (t.root.0, name) mode (jobs_by t.graph.names t.plan) (free name number);
}

-- and one that is refused, is refused for that cause
pub refused_with : (t : TransactionView) (mode : JobMode) (r : Refused)
    → ((name : List ℕ) → IsNumberOf t.graph t.root.1 name → IsPlan (scene_in t) (t.root.0, name) (jobs_by t.graph.names t.plan))
    → ((name : List ℕ) → IsNumberOf t.graph t.root.1 name → CausesOfPlan (scene_in t) (t.root.0, name) mode (jobs_by t.graph.names t.plan) r)
    → (name : List ℕ) → IsNumberOf t.graph t.root.1 name → IsRefused (scene_in t) (t.root.0, name) mode r
refused_with t mode r planned cause name number = record { after = jobs_by t.graph.names t.plan; plan = planned name number; cause = cause name number }

module _ (g : GraphView) (activity : List ActiveState) (pending : List UnitJobs) (root : Demand × ℕ) (marks : List Marks) (plan : List UnitJobs)
    (made : IsMade marks (transaction g activity pending root plan)) (name : List ℕ) (number : IsNumberOf g root.1 name) where
  known : root.1 < length g.names
  known = got_within g.names root.1 name number

  marked : (q : Demanded) → IsMarked marks q ↔ IsDemandedBy g activity root q
  marked = made.marked known

  -- the jobs are those after the demand
  pub planned_for : IsPlan (scene_of g activity pending) (root.0, name) (jobs_by g.names plan)
  planned_for =
      subst (λ x. IsPlan (scene_of g activity pending) (root.0, x) (jobs_by g.names plan)) (name_is g.names root.1 name number)
      (is_plan g made.graph activity pending root.0 root.1 known marks marked plan made.each)

  module _ (mode : JobMode) where
    abbrev Cause : Refused → Type 0
    Cause = CausesOfPlan (scene_of g activity pending) (root.0, name) mode (jobs_by g.names plan)

    abbrev None : (ℕ → Refused → Type 0) → Type 0
    None Refuses = (u : ℕ) → u < length g.names → (r : Refused) → ¬ Refuses u r

    pub bars_told : (r : Refused) → RefusesFirst (BarsBy g marks) (length g.names) r → Cause r
    bars_told r = refused_bars g made.graph activity pending root.0 root.1 known marks marked mode plan made.each name number r

    pub clashes_told : None (BarsBy g marks) → (r : Refused) → RefusesFirst (ClashesBy g marks) (length g.names) r → Cause r
    clashes_told able r = refused_clashes g made.graph activity pending root.0 root.1 known marks marked mode plan made.each name number able r

    pub drops_told : None (BarsBy g marks) → None (ClashesBy g marks) → (r : Refused) → RefusesFirst (DropsBy g mode pending plan) (length g.names) r → Cause r
    drops_told able apart r = refused_drops g made.graph activity pending root.0 root.1 known marks marked mode plan made.each name number able apart r

    pub cycle_told : None (BarsBy g marks) → None (ClashesBy g marks) → None (DropsBy g mode pending plan) → (r : Refused)
        → NamesCycle (Joins g before_bit) (jobs_by g.names plan) r → Cause r
    cycle_told able apart keeps r = refused_cycle g made.graph activity pending root.0 root.1 known marks marked mode plan made.each name number able apart keeps r

    pub none_told : None (BarsBy g marks) → None (ClashesBy g marks) → None (DropsBy g mode pending plan)
        → ((cycle : List Job) → ¬ IsCycle (ComesBefore (Joins g before_bit) (jobs_by g.names plan)) cycle) → (r : Refused) → ¬ Cause r
    none_told able apart keeps free = accepted g made.graph activity pending root.0 root.1 known marks marked mode plan made.each name number able apart keeps free
