-- A command for a unit: why it is refused and what it changes, by the name that was found for it.
use Rattle.std.proofs.Common.{◌≡◌, ◌≢◌, ◌⊎◌, ◌↔◌, ◌∙◌, ◌+◌, ◌<◌, ℕ, Bool, List, [], Contains, Option, Some, None, Result, Ok, Err, length, unwrap_or, vec_len, refl, sym, ap, subst, inl, inr, arith}
use Rattle.std.specs.Result.{IsErrAnd}
use Rattle.std.specs.FinMap as map
use Rattle.std.proofs.lemmas.Bool.{cases_lt}
use Rattle.std.proofs.lemmas.List.{get_or_default}
use Rattle.std.proofs.lemmas.Option.{none-some}
use Rattle.um_model.specs.declared.profile.Profile.{Profile}
use Rattle.um_model.specs.Profiles.{ReadTree, current}
use Rattle.um_model.specs.Jobs.{AreTidyJobs, jobs_of_unit, no_jobs, with_jobs}
use Rattle.um_model.specs.Machine as model
use Rattle.um_model.specs.Machine.{State, IsCrowded, IsHeld, IsHeldOr, IsNotThere, Refuses, Changes, active_asked, demand_of, scene_at}
use Rattle.um_model.specs.Plan.{CausesOfPlan, IsPlan}
use Rattle.um_model.specs.Refusals.{Refused}
use Rattle.um_model.specs.Servable.{IsFew}
use Rattle.um_model.specs.Standing.{Standing}
use Rattle.um_model.specs.Service.{ByUnit, active_state_of, state_of_unit}
use Rattle.um_model.specs.Units.{unit_named}
use Rattle.um_model.specs.declared.commands.JobMode.{JobMode}
use Rattle.um_model.specs.declared.commands.UnitVerb.{UnitVerb}
use Rattle.um_model.specs.declared.dependencies.Demand.{Demand}
use Rattle.um_model.specs.declared.jobs.UnitJobs.{UnitJobs}
use Rattle.um_model.specs.declared.service.ActiveState.{ActiveState}
use Rattle.um_model.proofs.UnitLaws.{jobs_apart, jobs_here, same_tidy, tidy_jobs}
use Rattle.um_answer.specs.Loaded.{Loads}
use Rattle.um_falling.specs.Over.{Serves}
use Rattle.um_falling.specs.Work.{Keeps, WorkView}
use Rattle.um_falling.proofs.WorkLaws.{keeps_all, keeps_then, number_on}
use Rattle.um_graph.specs.Graph.{GraphView, IsNumberOf}
use Rattle.um_graph.specs.Named.{name_at}
use Rattle.um_graph.proofs.NamedLaws.{IsAmong, IsApart, among_or_apart, name_got, names_once}
use Rattle.um_jobs.specs.Named.{jobs_at, jobs_by}
use Rattle.um_jobs.proofs.NamedLaws.{jobs_by_at, jobs_by_none, jobs_by_tidy}
use Rattle.um_state.specs.Deltas.{delta_after}
use Rattle.um_state.specs.Rows.{timed}
use Rattle.um_state.specs.View.{state_of}
use Rattle.um_state.specs.declared.delta.Delta.{Delta}
use Rattle.um_transact.specs.Transaction.{TransactionView, scene_in}
use Rattle.um_wire.specs.Gives.{RefusesBy}
use Rattle.um_wire.specs.Refusal.{refused_of}
use Rattle.um_wire.specs.declared.refusal.Refusal.{Refusal}
use Rattle.um_model.specs.declared.refusals.Limit.TheVariants.{Units}
use Rattle.um_wire.specs.declared.refusal.Refusal.TheVariants.{NoMemory, TooLarge}
use Rattle.um_engine.specs.Demanded.{Demands}
use Rattle.um_engine.specs.Known.{IsFull, IsGraphFor, KnownView, KnowsFor}
use Rattle.um_engine.specs.Planned.{AreActive, ArePending, HasPlan, IsTransactionFor}
use Rattle.um_engine.specs.Served.{ServedView, WorksOn, begun_at, standing_of}
use Rattle.um_engine.proofs.NumberedLaws.{free_for, plan_for, refused_for}
use Rattle.um_engine.proofs.SameUnitsLaws.{full_by}
use Rattle.um_engine.proofs.DoneLaws.{without_rows}
use Rattle.um_engine.proofs.Causes.{by_absence, by_fullness, by_plan, few_at_rest, few_planned, free_to_plan, free_to_rest, plans_to, rests_so}

-- a call that passes on another's refusal is refused for its cause
pub refuses_on : {X : Type 0} (Cause : Refused → Type 0) (result : Result X Refusal) (e : Refusal) → IsErrAnd result (λ f. f ≡ e) → (e ≢ NoMemory → Cause (refused_of e))
    → RefusesBy Cause result
refuses_on Cause (Ok done) e h cause = absurd h
refuses_on Cause (Err f) e h cause = subst (λ (r : Refusal). r ≢ NoMemory → Cause (refused_of r)) (sym h) cause

-- the unit of the requested name is the same by the known graph as by the state
pub asked_so : (k : KnownView) (s : State) (g : GraphView) (tree : ReadTree) (asked unit : List ℕ) → KnowsFor k s → g ≡ k.graph → tree ≡ s.loaded
    → (Loads g tree → unit ≡ unit_named tree.entries asked) → unit ≡ model.unit_asked s asked
asked_so k s g tree asked unit knows graph loaded leads =
    leads (subst (λ h. Loads h tree) (sym graph) (subst (Loads k.graph) (sym loaded) knows.made.of.loaded)) ∙ ap (λ (t : ReadTree). unit_named t.entries asked) loaded

-- ---- the units of which anything is held, as they were listed

module _ (w : State) (tree : ReadTree) (names : List (List ℕ)) (same : tree ≡ w.loaded) (each : (x : List ℕ) → Contains names x ↔ IsHeld w x) where
  full_listed : IsFull w.loaded (IsHeld w) → IsFull tree (Contains names)
  full_listed full = full_by tree (IsHeld w) (Contains names) (λ x. ((each x).1, (each x).0)) (subst (λ t. IsFull t (IsHeld w)) (sym same) full)

  pub few_listed : ¬ IsFull tree (Contains names) → IsFew w
  few_listed few r crowded = few (full_listed crowded.many)

  pub crowds_listed : (e : Refusal) → (e ≢ NoMemory → (e ≡ TooLarge Units) × IsFull tree (Contains names)) → e ≢ NoMemory → IsCrowded w.loaded (IsHeld w) (refused_of e)
  crowds_listed e h differs =
      let (is, full) = h differs in
      record { many = subst (λ t. IsFull t (IsHeld w)) same (full_by tree (Contains names) (IsHeld w) each full); refusal = ap refused_of is }

-- ---- the jobs of a plan are put, unit by unit

-- where all that is held has a name in the graph, no job of another unit is
pub not_pending : (g : GraphView) (s : State) → ((x : List ℕ) → IsHeld s x → Contains g.names x) → (x : List ℕ) → ¬ Contains g.names x → jobs_of_unit s.pending x ≡ no_jobs
not_pending g s held x isnt = by (map.get s.pending x) refl
  where
    by : (o : Option UnitJobs) → map.get s.pending x ≡ o → jobs_of_unit s.pending x ≡ no_jobs
    by None at = ap (λ o. unwrap_or o no_jobs) at
    by (Some j) at = absurd (isnt (held x (inr (λ e. none-some j (sym e ∙ at)))))

none_pends : (g : GraphView) (s : State) → ((x : List ℕ) → IsHeld s x → Contains g.names x) → (x : List ℕ) → IsApart g.names x → jobs_of_unit s.pending x ≡ no_jobs
none_pends g s held x apart = not_pending g s held x (λ there. apart there.0 there.1 (get_or_default g.names there.0 [] x there.1 ∙ there.2))

-- the second work is the first with the jobs of the first n units put
pub record PutsBelow (u w : WorkView) (plan : List UnitJobs) (n : ℕ) : Type 0 where
  pub keeps : Keeps u w
  pub actions : w.actions ≡ u.actions
  pub rest : state_of w.now ≡ record (state_of u.now) { pending = (state_of w.now).pending }
  pub tidy : AreTidyJobs (state_of w.now).pending
  pub put : (i : ℕ) → i < n → jobs_of_unit (state_of w.now).pending (name_at u.graph.names i) ≡ jobs_at plan i

pub puts_none : (u : WorkView) (plan : List UnitJobs) → AreTidyJobs (state_of u.now).pending → PutsBelow u u plan 0
puts_none u plan tidy = record { keeps = keeps_all u; actions = refl; rest = refl; tidy = tidy; put = λ i h. absurd (omega (arith, h)) }

module _ (u w x : WorkView) (plan : List UnitJobs) (n : ℕ) (jobs : UnitJobs) (serves : Serves u.graph (state_of u.now)) (within : n < length u.graph.names)
    (at : PutsBelow u w plan n) (keeps : Keeps w x) (same : x.actions ≡ w.actions) (is : jobs ≡ jobs_at plan n)
    (puts : (name : List ℕ) → IsNumberOf w.graph n name → state_of x.now ≡ record (state_of w.now) { pending = with_jobs (state_of w.now).pending name jobs }) where
  abbrev here : List ℕ
  here = name_at u.graph.names n

  put_here : state_of x.now ≡ record (state_of w.now) { pending = with_jobs (state_of w.now).pending here jobs }
  put_here = puts here (number_on u w n here at.keeps (name_got u.graph.names n within))

  pends_here : (state_of x.now).pending ≡ with_jobs (state_of w.now).pending here jobs
  pends_here = ap (λ (s : State). s.pending) put_here

  each : (i : ℕ) → i < n + 1 → jobs_of_unit (state_of x.now).pending (name_at u.graph.names i) ≡ jobs_at plan i
  each i h = elim (cases_lt i n) as (λ _. jobs_of_unit (state_of x.now).pending (name_at u.graph.names i) ≡ jobs_at plan i) [
    | inl lower ↦
        ap (λ m. jobs_of_unit m (name_at u.graph.names i)) pends_here
        ∙ (jobs_apart (state_of w.now).pending here jobs (name_at u.graph.names i)
        (λ e. let k = names_once u.graph.names serves.graph.sorted i n (omega (arith, lower, within)) within e in omega (arith, k, lower))
        ∙ at.put i lower)
    | inr past ↦
        let k : i ≡ n = omega (arith, h, past) in
        ap (λ m. jobs_of_unit m (name_at u.graph.names i)) pends_here
        ∙ (ap (λ j. jobs_of_unit (with_jobs (state_of w.now).pending here jobs) (name_at u.graph.names j)) k
        ∙ (jobs_here (state_of w.now).pending here jobs ∙ (is ∙ ap (jobs_at plan) (sym k))))
  ]

  pub puts_more : PutsBelow u x plan (n + 1)
  puts_more = record {
    keeps = keeps_then u w x at.keeps keeps;
    actions = same ∙ at.actions;
    rest = put_here
        ∙ (ap (λ (s : State). record s { pending = with_jobs (state_of w.now).pending here jobs }) at.rest
        ∙ ap (λ p. record (state_of u.now) { pending = p }) (sym pends_here));
    tidy = subst AreTidyJobs (sym pends_here) (tidy_jobs (state_of w.now).pending here jobs at.tidy);
    put = each;
  }

pub puts_all : (u w : WorkView) (plan : List UnitJobs) (n : ℕ) → Serves u.graph (state_of u.now) → n ≡ length u.graph.names → PutsBelow u w plan n
    → state_of w.now ≡ record (state_of u.now) { pending = jobs_by u.graph.names plan }
puts_all u w plan n serves all at = at.rest ∙ ap (λ p. record (state_of u.now) { pending = p }) pends
  where
    serves_now : Serves u.graph (state_of w.now)
    serves_now = subst (λ g. Serves g (state_of w.now)) at.keeps.graph (at.keeps.serves serves)

    told : (q : List ℕ) → IsAmong u.graph.names q ⊎ IsApart u.graph.names q → jobs_of_unit (state_of w.now).pending q ≡ jobs_of_unit (jobs_by u.graph.names plan) q
    told q (inl (i, h, e)) =
        ap (jobs_of_unit (state_of w.now).pending) (sym e)
        ∙ (at.put i (omega (arith, h, all))
        ∙ (sym (jobs_by_at u.graph.names plan (names_once u.graph.names serves.graph.sorted) i h) ∙ ap (jobs_of_unit (jobs_by u.graph.names plan)) e))
    told q (inr apart) = none_pends u.graph (state_of w.now) serves_now.held q apart ∙ sym (jobs_by_none u.graph.names plan q apart)

    pends : (state_of w.now).pending ≡ jobs_by u.graph.names plan
    pends = same_tidy no_jobs (state_of w.now).pending (jobs_by u.graph.names plan) at.tidy (jobs_by_tidy u.graph.names plan) (λ q. told q (among_or_apart u.graph.names q))

-- ---- the state with the plan of a transaction that is made for it

module _ (s u : State) (root : Demand × List ℕ) (t : TransactionView) (is : IsTransactionFor s root t) where
  abbrev after : ByUnit UnitJobs
  after = jobs_by t.graph.names t.plan

  module _ (so : u ≡ record s { pending = after }) where
    abbrev jobs : u.pending ≡ after
    jobs = ap (λ (x : State). x.pending) so

    pub has_plan : IsPlan (scene_in t) (t.root.0, root.1) after → HasPlan s root u
    has_plan plan = record {
      plan = subst (IsPlan (scene_at s root.1) root) (sym jobs) (plan_for s root t is plan);
      rest = so ∙ ap (λ p. record s { pending = p }) (sym jobs);
    }

    pub refused_so : (mode : JobMode) (r : Refused) → CausesOfPlan (scene_in t) (t.root.0, root.1) mode after r → CausesOfPlan (scene_at s root.1) root mode u.pending r
    refused_so mode r cause = subst (λ p. CausesOfPlan (scene_at s root.1) root mode p r) (sym jobs) (refused_for s root t is mode r cause)

    pub free_so : (mode : JobMode) → ((r : Refused) → ¬ CausesOfPlan (scene_in t) (t.root.0, root.1) mode after r)
        → (r : Refused) → ¬ CausesOfPlan (scene_at s root.1) root mode u.pending r
    free_so mode none r cause = free_for s root t is mode none r (subst (λ p. CausesOfPlan (scene_at s root.1) root mode p r) jobs cause)

-- ---- why the command is refused, and what it changes

module _ (s : State) (verb : UnitVerb) (asked : List ℕ) (mode : JobMode) (unit : List ℕ) (same : unit ≡ model.unit_asked s asked) where
  few_asked : ((q : Refused) → ¬ IsCrowded s.loaded (IsHeldOr s unit) q) → (q : Refused) → ¬ IsCrowded s.loaded (IsHeldOr s (model.unit_asked s asked)) q
  few_asked few q h = few q (subst (λ x. IsCrowded s.loaded (IsHeldOr s x) q) (sym same) h)

  demanded_asked : (demand : Option Demand) → demand ≡ demand_of verb (active_state_of (state_of_unit s.units unit).sub) → demand_of verb (active_asked s asked) ≡ demand
  demanded_asked demand is = ap (λ x. demand_of verb (active_state_of (state_of_unit s.units x).sub)) (sym same) ∙ sym is

  -- with no demand
  module _ (is : None ≡ demand_of verb (active_state_of (state_of_unit s.units unit).sub)) (few : (q : Refused) → ¬ IsCrowded s.loaded (IsHeldOr s unit) q) where
    pub absent_at_rest : (r : Refused) → IsNotThere s verb asked r → Refuses current s (model.ForUnit verb asked mode) r
    absent_at_rest r h = by_absence s verb asked mode r (few_at_rest s verb asked mode (few_asked few) (demanded_asked None is)) h

    pub free_at_rest : ((q : Refused) → ¬ IsNotThere s verb asked q) → (r : Refused) → ¬ Refuses current s (model.ForUnit verb asked mode) r
    free_at_rest = free_to_rest s verb asked mode (few_asked few) (demanded_asked None is)

    pub rests_asked : {profile : Profile} (u : State) → u ≡ s → Changes profile s (model.ForUnit verb asked mode) u
    rests_asked u = rests_so s verb asked mode u (demanded_asked None is)

  -- with a plan for the demand
  module _ (demand : Demand) (is : Some demand ≡ demand_of verb (active_state_of (state_of_unit s.units unit).sub)) (u : State) (planned : HasPlan s (demand, unit) u) where
    abbrev demanded : demand_of verb (active_asked s asked) ≡ Some demand
    demanded = demanded_asked (Some demand) is

    planned_asked : HasPlan s (demand, model.unit_asked s asked) u
    planned_asked = subst (λ x. HasPlan s (demand, x) u) same planned

    pub refused_full : (r : Refused) → IsCrowded u.loaded (IsHeld u) r → Refuses current s (model.ForUnit verb asked mode) r
    refused_full = by_fullness s verb asked mode demand demanded u planned_asked

    module _ (few : (q : Refused) → ¬ IsCrowded s.loaded (IsHeldOr s unit) q) (fits : IsFew u) where
      few_too : (q : Refused) → ¬ model.PlansTooMany s verb asked q
      few_too = few_planned s verb asked mode demand demanded u planned_asked (few_asked few) fits

      pub refused_absent : (r : Refused) → IsNotThere s verb asked r → Refuses current s (model.ForUnit verb asked mode) r
      refused_absent r h = by_absence s verb asked mode r few_too h

      module _ (there : (q : Refused) → ¬ IsNotThere s verb asked q) where
        pub refused_planned : (r : Refused) → CausesOfPlan (scene_at s unit) (demand, unit) mode u.pending r → Refuses current s (model.ForUnit verb asked mode) r
        refused_planned r h =
            by_plan s verb asked mode demand demanded u planned_asked few_too there r (subst (λ x. CausesOfPlan (scene_at s x) (demand, x) mode u.pending r) same h)

        pub free_planned : ((q : Refused) → ¬ CausesOfPlan (scene_at s unit) (demand, unit) mode u.pending q) → (r : Refused) → ¬ Refuses current s (model.ForUnit verb asked mode) r
        free_planned free =
            free_to_plan s verb asked mode demand demanded u planned_asked few_too there
            (λ q h. free q (subst (λ x. CausesOfPlan (scene_at s x) (demand, x) mode u.pending q) (sym same) h))

    pub plans_asked : {profile : Profile} → Changes profile s (model.ForUnit verb asked mode) u
    plans_asked = plans_to s verb asked mode demand demanded u planned_asked

-- ---- the plan in a work

-- the transaction is made for the state that is served
pub made_here : (v : ServedView) (t : ℕ) (w : WorkView) (root : Demand × List ℕ) (g : GraphView) (activity : List ActiveState) (pending : List UnitJobs) (tr : TransactionView)
    → w ≡ begun_at (standing_of v) v.known.graph t → g ≡ w.graph → IsGraphFor v.state.loaded (IsHeldOr v.state root.1) v.known.graph
    → AreActive w.graph (state_of w.now) activity → ArePending w.graph (state_of w.now) pending
    → ((s : State) → IsGraphFor s.loaded (IsHeldOr s root.1) g → AreActive g s activity → ArePending g s pending → IsTransactionFor s root tr)
    → IsTransactionFor v.state root tr
made_here v t w root g activity pending tr begins shown exact active pends made =
    let graph : g ≡ v.known.graph = shown ∙ ap (λ (z : WorkView). z.graph) begins in
    made v.state (subst (IsGraphFor v.state.loaded (IsHeldOr v.state root.1)) (sym graph) exact)
    (subst (λ h. AreActive h v.state activity) (sym graph) (subst (λ (z : WorkView). AreActive z.graph (state_of z.now) activity) begins active))
    (subst (λ h. ArePending h v.state pending) (sym graph) (subst (λ (z : WorkView). ArePending z.graph (state_of z.now) pending) begins pends))

-- and the work has its jobs
pub so_here : (v : ServedView) (t : ℕ) (w x : WorkView) (g : GraphView) (plan : List UnitJobs) (tr : TransactionView) → w ≡ begun_at (standing_of v) v.known.graph t → g ≡ w.graph
    → tr.graph ≡ g → plan ≡ tr.plan → state_of x.now ≡ record (state_of w.now) { pending = jobs_by w.graph.names plan }
    → state_of x.now ≡ record v.state { pending = jobs_by tr.graph.names tr.plan }
so_here v t w x g plan tr begins shown graph is put =
    put
    ∙ (ap (λ (z : WorkView). record (state_of z.now) { pending = jobs_by w.graph.names plan }) begins
    ∙ (ap (λ (h : GraphView). record v.state { pending = jobs_by h.names plan }) (sym (graph ∙ shown)) ∙ ap (λ p. record v.state { pending = jobs_by tr.graph.names p }) is))

module _ (s u : State) (verb : UnitVerb) (asked : List ℕ) (found : Bool) (demand : Demand) (unit : List ℕ) (mode : JobMode) (demands : Demands s verb asked found demand unit)
    (tr : TransactionView) (is : IsTransactionFor s (demand, unit) tr) (so : u ≡ record s { pending = jobs_by tr.graph.names tr.plan })
    (plan : (name : List ℕ) → IsNumberOf tr.graph tr.root.1 name → IsPlan (scene_in tr) (tr.root.0, name) (jobs_by tr.graph.names tr.plan)) where
  pub plan_here : HasPlan s (demand, unit) u
  plan_here = has_plan s u (demand, unit) tr is so (plan unit is.number)

  pub full_here : (r : Refused) → IsCrowded u.loaded (IsHeld u) r → Refuses current s (model.ForUnit verb asked mode) r
  full_here = refused_full s verb asked mode unit demands.same demand demands.demanded u plan_here

  module _ (fits : IsFew u) where
    pub absent_here : (r : Refused) → IsNotThere s verb asked r → Refuses current s (model.ForUnit verb asked mode) r
    absent_here = refused_absent s verb asked mode unit demands.same demand demands.demanded u plan_here demands.few fits

    module _ (there : (q : Refused) → ¬ IsNotThere s verb asked q) where
      pub cause_here : (r : Refused) → CausesOfPlan (scene_in tr) (tr.root.0, unit) mode (jobs_by tr.graph.names tr.plan) r → Refuses current s (model.ForUnit verb asked mode) r
      cause_here r h =
          refused_planned s verb asked mode unit demands.same demand demands.demanded u plan_here demands.few fits there r (refused_so s u (demand, unit) tr is so mode r h)

      pub free_here : ((q : Refused) → ¬ CausesOfPlan (scene_in tr) (tr.root.0, unit) mode (jobs_by tr.graph.names tr.plan) q) → (r : Refused)
          → ¬ Refuses current s (model.ForUnit verb asked mode) r
      free_here free =
          free_planned s verb asked mode unit demands.same demand demands.demanded u plan_here demands.few fits there (free_so s u (demand, unit) tr is so mode free)

-- with other units known, and at its moment, the same is served
pub served_plan : (s : State) (root : Demand × List ℕ) (v u : ServedView) (x : WorkView) (t : ℕ) (delta : Delta) → v.state ≡ s → t ≡ s.clock → WorksOn v x → x.moment ≡ t
    → HasPlan v.state root (state_of x.now) → delta_after delta x.base ≡ timed x.moment (state_of x.now).next x.now → standing_of u ≡ delta_after delta (standing_of v)
    → HasPlan s root u.state
served_plan s root v u x t delta same clock works moment planned after is =
    let plan : HasPlan s root (state_of x.now) = subst (λ z. HasPlan z root (state_of x.now)) same planned in
    let at : x.moment ≡ (state_of x.now).clock = moment ∙ (clock ∙ sym (ap (λ (z : State). z.clock) plan.rest)) in
    let served : u.state ≡ state_of x.now =
    ap state_of (is ∙ (ap (delta_after delta) (sym works.base) ∙ after)) ∙ ap (λ m. record (state_of x.now) { clock = m }) at in
    subst (HasPlan s root) (sym served) plan

-- a plan whose delta has no rows leaves the state as it is
pub same_without : (s : State) (root : Demand × List ℕ) (v u : ServedView) (delta : Delta) → HasPlan s root u.state → v.state ≡ s → standing_of u ≡ delta_after delta (standing_of v)
    → vec_len delta.rows ≡ 0 → u.state ≡ v.state
same_without s root v u delta plan same is none =
    let after : standing_of u ≡ timed delta.clock delta.next (standing_of v) = is ∙ without_rows delta (standing_of v) none in
    let pending : u.state.pending ≡ v.state.pending = ap (λ (x : Standing). x.state.pending) after in
    plan.rest ∙ (ap (λ (x : State). record x { pending = u.state.pending }) (sym same) ∙ ap (λ p. record v.state { pending = p }) pending)
