-- The activity and the jobs of a state by the numbers of a graph's units, and the plan that results.
use Rattle.std.proofs.Common.{◌≡◌, ◌≢◌, ◌⊎◌, ◌↔◌, ◌∙◌, ◌+◌, ◌<◌, ℕ, List, [], ◌∷◌, ◌++◌, length, get_or, Contains, Option, Some, None, Result, Ok, Err, unwrap_or, refl, sym, ap, subst, inl, inr, arith}
use Rattle.std.specs.FinMap as map
use Rattle.std.proofs.lemmas.Bool.{cases_lt}
use Rattle.std.proofs.lemmas.List.{get_or_append_left, get_or_push}
use Rattle.std.proofs.lemmas.List.Elements.{Contains-append_left, Contains-push, Contains-push_cases}
use Rattle.std.proofs.lemmas.Option.{none-some, slice_get-get_or}
use Rattle.std.specs.Result.{IfOk}
use Rattle.um_model.specs.Dependencies.{IsKnown, extra, loadable_in}
use Rattle.um_model.specs.Jobs.{jobs_of_unit, no_jobs, with_jobs}
use Rattle.um_model.specs.Machine.{State, IsHeld, IsHeldOr, scene_at}
use Rattle.um_model.specs.Reached.{first}
use Rattle.um_model.specs.Service.{ByUnit, active_state_of, state_of_unit}
use Rattle.um_model.specs.Units.{LoadedUnit}
use Rattle.um_model.specs.declared.commands.JobMode.{JobMode}
use Rattle.um_model.specs.declared.dependencies.Demand.{Demand}
use Rattle.um_model.specs.declared.jobs.UnitJobs.{UnitJobs}
use Rattle.um_model.specs.declared.service.ActiveState.{ActiveState}
use Rattle.um_model.specs.Refusals.{Refused}
use Rattle.um_model.specs.Plan.{IsPlan, CausesOfPlan}
use Rattle.um_laws.proofs.PlanLaws.{AreAlike, alike_back, causes_same, plan_same}
use Rattle.um_graph.specs.Graph.{GraphView, IsGraph, IsNumberOf}
use Rattle.um_graph.specs.Named.{name_at}
use Rattle.um_graph.proofs.NamedLaws.{got_within, name_is, names_once}
use Rattle.um_jobs.specs.Named.{jobs_by}
use Rattle.um_jobs.proofs.NamedLaws.{jobs_by_at}
use Rattle.um_state.specs.Tables.{jobs_by as state_jobs_by}
use Rattle.um_transact.specs.Scene.{scene_of}
use Rattle.um_transact.specs.Transaction as transactions
use Rattle.um_transact.specs.Transaction.{TransactionView}
use Rattle.um_transact.proofs.PlanLaws.{made_from}
use Rattle.um_transact.proofs.TreeLaws.{alike_tree}
use Rattle.um_engine.specs.Known.{IsGraphFor}
use Rattle.um_engine.specs.Planned.{AreActive, ArePending, IsTransactionFor}

-- ---- lists by number

-- one item more
pub each_more : {A : Type 0} (none : A) (P : ℕ → A → Type 0) (xs ys : List A) (n : ℕ) (v : A) → length xs ≡ n → ys ≡ xs ++ v ∷ [] → P n v
    → ((u : ℕ) → u < n → P u (get_or xs u none)) → (u : ℕ) → u < n + 1 → P u (get_or ys u none)
each_more none P xs ys n v len e here each u h = elim (cases_lt u n) as (λ _. P u (get_or ys u none)) [
  | inl lower ↦ subst (P u) (sym (ap (λ l. get_or l u none) e ∙ get_or_append_left xs (v ∷ []) none u (omega arith))) (each u lower)
  | inr past ↦
      let at : length xs ≡ u = omega arith in
      let same : n ≡ u = omega arith in
      subst (P u) (sym (ap (λ l. get_or l u none) e ∙ get_or_push xs v none u at)) (subst (λ k. P k v) same here)
]

-- a name more
pub with_named : (Has : List ℕ → Type 0) (names more : List (List ℕ)) (named : List ℕ) → more ≡ names ++ named ∷ [] → ((x : List ℕ) → Contains names x ↔ Has x)
    → (x : List ℕ) → Contains more x ↔ (Has x ⊎ (x ≡ named))
with_named Has names more named is each x = (
  λ c. elim (Contains-push_cases names named x (subst (λ l. Contains l x) is c)) as (λ _. Has x ⊎ (x ≡ named)) [
    | inl among ↦ inl ((each x).0 among)
    | inr here ↦ inr (sym here)
  ],
  λ h. subst (λ l. Contains l x) (sym is) (elim h as (λ _. Contains (names ++ named ∷ []) x) [
    | inl has ↦ Contains-append_left names (named ∷ []) x ((each x).1 has)
    | inr here ↦ subst (Contains (names ++ named ∷ [])) (sym here) (Contains-push names named)
  ]),
)

-- the jobs of rows under names are those of the units with these names
pub named_by : (names : List (List ℕ)) (jobs : List UnitJobs) → state_jobs_by names jobs ≡ jobs_by names jobs
named_by [] jobs = refl
named_by (n ∷ ns) [] = refl
named_by (n ∷ ns) (j ∷ jobs) = ap (λ m. with_jobs m n j) (named_by ns jobs)

-- and by their numbers the rows are these
pub pends_by : (g : GraphView) (s : State) (jobs : List UnitJobs) → IsGraph g → state_jobs_by g.names jobs ≡ s.pending → ArePending g s jobs
pends_by g s jobs graph is i x number =
    sym (jobs_by_at g.names jobs (names_once g.names graph.sorted) i (got_within g.names i x number))
    ∙ (ap (λ m. jobs_of_unit m (name_at g.names i)) (sym (named_by g.names jobs) ∙ is) ∙ ap (jobs_of_unit s.pending) (name_is g.names i x number))

-- ---- the scene of a graph that is exactly that of the units that count

module _ (s : State) (named : List ℕ) (g : GraphView) (exact : IsGraphFor s.loaded (IsHeldOr s named) g) (activity : List ActiveState) (pending : List UnitJobs)
    (active : AreActive g s activity) (pends : ArePending g s pending) where
  -- a unit without a number isn't held
  not_pending : (x : List ℕ) → ((i : ℕ) → ¬ IsNumberOf g i x) → jobs_of_unit s.pending x ≡ no_jobs
  not_pending x none = by (map.get s.pending x) refl
    where
      by : (o : Option UnitJobs) → map.get s.pending x ≡ o → jobs_of_unit s.pending x ≡ no_jobs
      by None at = ap (λ o. unwrap_or o no_jobs) at
      by (Some j) at =
          let held : IsHeld s x = inr (λ e. none-some j (sym e ∙ at)) in
          let c = (exact.of.known x).1 (first (extra (inl held))) in
          absurd (none c.0 (slice_get-get_or g.names c.0 x c.1 ∙ ap Some c.2))

  alike : AreAlike (IsKnown s.loaded (IsHeldOr s named)) (scene_of g activity pending) (scene_at s named)
  alike =
      let a = alike_tree s.loaded (IsHeldOr s named) g exact.graph exact.of activity pending (λ x. active_state_of (state_of_unit s.units x).sub) s.pending active pends not_pending in
      record {
        within = a.within;
        depends = a.depends;
        before = a.before;
        loadable = λ x k.
            let l = a.loadable x k in (
              λ h none. let u = l.0 h in none-some u.0 (sym none ∙ u.1),
              λ there. l.1 (some_there x (loadable_in s.loaded x) refl there),
            );
        cannot = a.cannot;
        activity = a.activity;
        pending = a.pending;
      }
    where
      some_there : (x : List ℕ) (o : Option LoadedUnit) → loadable_in s.loaded x ≡ o → loadable_in s.loaded x ≢ None → (l : LoadedUnit) × (loadable_in s.loaded x ≡ Some l)
      some_there x None at there = absurd (there at)
      some_there x (Some l) at there = (l, at)

  named_known : IsKnown s.loaded (IsHeldOr s named) named
  named_known = first (extra (inr refl))

  pub planned_here : (demand : Demand) (after : ByUnit UnitJobs) → IsPlan (scene_of g activity pending) (demand, named) after → IsPlan (scene_at s named) (demand, named) after
  planned_here demand = plan_same (IsKnown s.loaded (IsHeldOr s named)) (demand, named) named_known (scene_of g activity pending) (scene_at s named) alike

  pub causes_here : (demand : Demand) (mode : JobMode) (after : ByUnit UnitJobs) (r : Refused) → CausesOfPlan (scene_of g activity pending) (demand, named) mode after r
      → CausesOfPlan (scene_at s named) (demand, named) mode after r
  causes_here demand = causes_same (IsKnown s.loaded (IsHeldOr s named)) (demand, named) named_known (scene_of g activity pending) (scene_at s named) alike

  pub causes_there : (demand : Demand) (mode : JobMode) (after : ByUnit UnitJobs) (r : Refused) → CausesOfPlan (scene_at s named) (demand, named) mode after r
      → CausesOfPlan (scene_of g activity pending) (demand, named) mode after r
  causes_there demand =
      causes_same (IsKnown s.loaded (IsHeldOr s named)) (demand, named) named_known (scene_at s named) (scene_of g activity pending)
      (alike_back (IsKnown s.loaded (IsHeldOr s named)) (scene_of g activity pending) (scene_at s named) alike)

-- a transaction, by the inputs it was made from
pub made_for : {E : Type 0} (g : GraphView) (activity : List ActiveState) (pending : List UnitJobs) (demand : Demand) (unit : List ℕ) (number : ℕ) (result : Result TransactionView E)
    → IsNumberOf g number unit → IfOk result (λ t. t.graph ≡ g) → IfOk result (λ t. t.activity ≡ activity) → IfOk result (λ t. t.pending ≡ pending)
    → IfOk result (λ t. t.root ≡ (demand, number))
    → IfOk result (λ t. (s : State) → IsGraphFor s.loaded (IsHeldOr s unit) g → AreActive g s activity → ArePending g s pending → IsTransactionFor s (demand, unit) t)
made_for g activity pending demand unit number (Ok t) at e f h k = λ s exact active pends.
    subst (IsTransactionFor s (demand, unit)) (sym (made_from t g activity pending (demand, number) e f h k))
    (record { exact = exact; active = active; pends = pends; number = at; demand = refl })
made_for g activity pending demand unit number (Err x) at e f h k = e

-- one that is made for a state
module _ (s : State) (root : Demand × List ℕ) (t : TransactionView) (is : IsTransactionFor s root t) where
  abbrev after : ByUnit UnitJobs
  after = jobs_by t.graph.names t.plan

  pub plan_for : IsPlan (transactions.scene_in t) (t.root.0, root.1) after → IsPlan (scene_at s root.1) root after
  plan_for plan =
      planned_here s root.1 t.graph is.exact t.activity t.pending is.active is.pends root.0 after
      (subst (λ d. IsPlan (transactions.scene_in t) (d, root.1) after) is.demand plan)

  pub refused_for : (mode : JobMode) (r : Refused) → CausesOfPlan (transactions.scene_in t) (t.root.0, root.1) mode after r → CausesOfPlan (scene_at s root.1) root mode after r
  refused_for mode r cause =
      causes_here s root.1 t.graph is.exact t.activity t.pending is.active is.pends root.0 mode after r
      (subst (λ d. CausesOfPlan (transactions.scene_in t) (d, root.1) mode after r) is.demand cause)

  pub free_for : (mode : JobMode) → ((r : Refused) → ¬ CausesOfPlan (transactions.scene_in t) (t.root.0, root.1) mode after r)
      → (r : Refused) → ¬ CausesOfPlan (scene_at s root.1) root mode after r
  free_for mode none r cause =
      none r
      (subst (λ d. CausesOfPlan (transactions.scene_in t) (d, root.1) mode after r) (sym is.demand)
      (causes_there s root.1 t.graph is.exact t.activity t.pending is.active is.pends root.0 mode after r cause))

-- the unit for which the graph was made is one of its units
pub has_named : (s : State) (named : List ℕ) (g : GraphView) → IsGraphFor s.loaded (IsHeldOr s named) g → Contains g.names named
has_named s named g exact = (exact.of.known named).1 (first (extra (inr refl)))
