-- The job that begins next by the graph is the one that begins next by the tree, unless it is a start that is held back.
use Rattle.std.proofs.Common.{◌≡◌, ◌≢◌, ◌∙◌, ◌+◌, ◌<◌, ◌≤◌, ℕ, Bool, true, false, true≢false, List, length, replicate, set, sum_by, Contains, Option, Some, None, slice_get, unwrap_or, refl, sym, ap, subst, inl, inr, arith}
use Rattle.std.proofs.lemmas.Bool.{cases_eq, cases_lt}
use Rattle.std.proofs.lemmas.Grind.{get_or-set_at}
use Rattle.std.proofs.lemmas.List.{get_or-replicate, get_or-set_other, get_or_past, length-replicate, length-set}
use Rattle.std.proofs.lemmas.List.Sums.{sum_by-set}
use Rattle.std.proofs.lemmas.Option.{none-some, same_Some}
use Rattle.std.specs.FinMap as map
use Rattle.um_model.specs.Jobs.{Job, ComesBefore, GoesBefore, IsReady, IsToldBefore, job_of, jobs_of_unit, no_jobs, with_job, with_jobs, of_one_unit, starts, state_of_job, stops, stops_then_starts, stops_then_starts_before}
use Rattle.um_model.specs.Least.{IsLeast}
use Rattle.um_model.specs.Machine.{State, IsBefore, IsStill, begun}
use Rattle.um_model.specs.Service.{active_state_of, state_of_unit}
use Rattle.um_model.specs.declared.jobs.JobKind.{JobKind}
use Rattle.um_model.specs.declared.jobs.JobKind.TheVariants.{Stop, Start}
use Rattle.um_model.specs.declared.jobs.JobState.{JobState}
use Rattle.um_model.specs.declared.jobs.JobState.TheVariants.{Waiting}
use Rattle.um_model.specs.declared.jobs.UnitJobs.{UnitJobs}
use Rattle.um_model.specs.declared.service.ActiveState.{ActiveState}
use Rattle.um_model.specs.declared.service.ActiveState.TheVariants.{Deactivating}
use Rattle.um_model.proofs.TimersLaws.{same_name}
use Rattle.um_model.proofs.UnitLaws.{jobs_apart, jobs_here}
use Rattle.um_model.specs.Waiting.{NoMoreWait, waits, waits_in}
use Rattle.um_model.proofs.Forms.{with_running}
use Rattle.um_graph.specs.Graph.{GraphView, IsGraph, IsNumberOf}
use Rattle.um_graph.specs.Kinds.{before_bit}
use Rattle.um_graph.specs.Named.{Joins, item_for, name_at}
use Rattle.um_graph.proofs.NamedLaws.{among_or_apart, got_within, item_at, name_got, name_is, names_once}
use Rattle.um_jobs.specs.Jobs.{IsReadyIn, JobsView, held_at, job_named, with_held_at, with_jobs_at}
use Rattle.um_jobs.specs.Named.{jobs_at, jobs_by}
use Rattle.um_jobs.proofs.NamedLaws.{jobs_by_at, jobs_by_none}
use Rattle.um_falling.specs.Carrying.{KeepsOthers}
use Rattle.um_engine.specs.Planned.{ArePending}
use Rattle.um_engine.specs.Filled.{Begins, Tells, deactivates, is_deactivating, is_held_back, told_of}
use Rattle.um_falling.specs.Over.{Serves}
use Rattle.um_falling.proofs.AlongLaws.{number_by, sum_drops}
use Rattle.um_falling.proofs.TakenLaws.{before_by, stands_by}

-- ---- the jobs by number are filled

nothing_held : (n i : ℕ) → held_at (replicate n false) i ≢ true
nothing_held n i is = true≢false (sym is ∙ elim (cases_lt i n) as (λ _. held_at (replicate n false) i ≡ false) [
  | inl within ↦ get_or-replicate n i false false within
  | inr past ↦ get_or_past (replicate n false) i false (omega (arith, past, length-replicate n false))
])

-- while they are filled in, no unit is marked as deactivating
pub none_told : (g : GraphView) (s : State) (v : JobsView) (pending : List UnitJobs) → IsGraph g → v.graph ≡ g → length pending ≡ length g.names → ArePending g s pending
    → v.units ≡ pending → v.held ≡ replicate (length g.names) false → Tells g s v
none_told g s v pending graph same long pends e held = record {
  graph = graph;
  same = same;
  long = ap length e ∙ long;
  wide = ap length held ∙ length-replicate (length g.names) false;
  jobs = subst (ArePending g s) (sym e) pends;
  held = λ i unit m is. absurd (nothing_held (length g.names) i (sym (ap (λ h. held_at h i) held) ∙ is));
}

-- ---- one job goes before another by an order, and by one that puts the same of these units before the other
goes_by : (B C : List ℕ → List ℕ → Type 0) (j k : Job) → (B j.unit k.unit → C j.unit k.unit) → (B k.unit j.unit → C k.unit j.unit) → GoesBefore B j k → GoesBefore C j k
goes_by B C _ _ f h (starts b) = starts (f b)
goes_by B C _ _ f h (stops b) = stops (h b)
goes_by B C _ _ f h (stops_then_starts b) = stops_then_starts (f b)
goes_by B C _ _ f h (stops_then_starts_before b) = stops_then_starts_before (h b)
goes_by B C _ _ f h of_one_unit = of_one_unit

no_job : (kind : JobKind) → job_of kind no_jobs ≡ None
no_job Stop = refl
no_job Start = refl

isnt_deactivating : (a : ActiveState) → is_deactivating a ≡ false → a ≢ Deactivating
isnt_deactivating a e is = true≢false (ap is_deactivating (sym is) ∙ e)

not_deactivating : (a : ActiveState) → a ≢ Deactivating → is_deactivating a ≡ false
not_deactivating a isnt = by (is_deactivating a) refl
  where
    it_is : (a : ActiveState) → is_deactivating a ≡ true → a ≡ Deactivating
    it_is Deactivating e = refl
    it_is _ e = absurd (true≢false (sym e))

    by : (b : Bool) → is_deactivating a ≡ b → b ≡ false
    by true e = absurd (isnt (it_is a e))
    by false e = refl

-- ---- a job that is ready by the graph is ready by the tree
module _ (g : GraphView) (s : State) (serves : Serves g s) (v : JobsView) (tells : Tells g s v) where
  once : (i j : ℕ) → i < length g.names → j < length g.names → name_at g.names i ≡ name_at g.names j → i ≡ j
  once = names_once g.names tells.graph.sorted

  named : (x : List ℕ) → Contains g.names x → (i : ℕ) × (i < length g.names) × (name_at g.names i ≡ x) × IsNumberOf g i x
  named x c = let (i, number) = number_by g x c in (i, got_within g.names i x number, name_is g.names i x number, number)

  same_jobs : (x : List ℕ) → jobs_of_unit (jobs_by g.names v.units) x ≡ jobs_of_unit s.pending x
  same_jobs x = elim (among_or_apart g.names x) as (λ _. jobs_of_unit (jobs_by g.names v.units) x ≡ jobs_of_unit s.pending x) [
    | inl a ↦
        let (i, within, is) = a in
        ap (jobs_of_unit (jobs_by g.names v.units)) (sym is) ∙ (jobs_by_at g.names v.units once i within ∙ tells.jobs i x (name_got g.names i within ∙ ap Some is))
    | inr apart ↦ jobs_by_none g.names v.units x apart ∙ sym (none_held (map.get s.pending x) refl (λ h. let (i, within, is, number) = named x (serves.held x (inr h)) in apart i within is))
  ]
    where
      none_held : (o : Option UnitJobs) → map.get s.pending x ≡ o → ¬ (map.get s.pending x ≢ None) → jobs_of_unit s.pending x ≡ no_jobs
      none_held None e isnt = ap (λ o. unwrap_or o no_jobs) e
      none_held (Some j) e isnt = absurd (isnt (λ n. none-some j (sym n ∙ e)))

  same_state : (j : Job) → state_of_job (jobs_by g.names v.units) j ≡ state_of_job s.pending j
  same_state j = ap (job_of j.kind) (same_jobs j.unit)

  pending_known : (j : Job) → state_of_job s.pending j ≢ None → Contains g.names j.unit
  pending_known j pends = serves.held j.unit (inr (λ e. pends (ap (λ o. job_of j.kind (unwrap_or o no_jobs)) e ∙ no_job j.kind)))

  waiting_known : (j : Job) → state_of_job s.pending j ≡ Some Waiting → Contains g.names j.unit
  waiting_known j w = pending_known j (λ e. none-some Waiting (sym e ∙ w))

  joins_before : (x y : List ℕ) → Joins g before_bit x y → IsBefore s.loaded x y
  joins_before x y h = before_by g s serves h.from h.to x y h.first h.second h.stands

  before_joins : (x y : List ℕ) → Contains g.names x → Contains g.names y → IsBefore s.loaded x y → Joins g before_bit x y
  before_joins x y c d b =
      let (i, n) = number_by g x c in
      let (j, m) = number_by g y d in
      record { from = i; to = j; first = n; second = m; stands = stands_by g s serves i j x y n m b }

  comes_here : (j k : Job) → ComesBefore (Joins g before_bit) (jobs_by g.names v.units) j k → ComesBefore (IsBefore s.loaded) s.pending j k
  comes_here j k h = record {
    pends = λ e. h.pends (same_state j ∙ e);
    waits = sym (same_state k) ∙ h.waits;
    goes = goes_by (Joins g before_bit) (IsBefore s.loaded) j k (joins_before j.unit k.unit) (joins_before k.unit j.unit) h.goes;
  }

  comes_there : (j k : Job) → ComesBefore (IsBefore s.loaded) s.pending j k → ComesBefore (Joins g before_bit) (jobs_by g.names v.units) j k
  comes_there j k h =
      let c = pending_known j h.pends in
      let d = waiting_known k h.waits in
      record {
        pends = λ e. h.pends (sym (same_state j) ∙ e);
        waits = same_state k ∙ h.waits;
        goes = goes_by (IsBefore s.loaded) (Joins g before_bit) j k (before_joins j.unit k.unit c d) (before_joins k.unit j.unit d c) h.goes;
      }

  told_held : (x : List ℕ) → Contains g.names x → item_for false g.names v.held x ≡ true → deactivates s x ≡ true
  told_held x c is =
      let (i, within, at, number) = named x c in
      tells.held i x number (sym (ap (item_for false g.names v.held) (sym at) ∙ item_at false g.names v.held once i within) ∙ is)

  ready_here : (j : Job) → IsReadyIn g v j → is_held_back s j.unit j.kind ≡ false → IsReady (IsBefore s.loaded) s.units s.pending j
  ready_here j h free = record {
    waits = sym (same_state j) ∙ h.waits;
    free = λ other c. h.free other (comes_there other j c);
    still = λ start. isnt_deactivating (active_state_of (state_of_unit s.units j.unit).sub) (sym (ap (is_held_back s j.unit) start) ∙ free);
  }

  ready_there : (j : Job) → IsReady (IsBefore s.loaded) s.units s.pending j → IsReadyIn g v j
  ready_there j h = record {
    waits = same_state j ∙ h.waits;
    free = λ other c. h.free other (comes_here other j c);
    still = λ start. by (item_for false g.names v.held j.unit) refl start;
  }
    where
      by : (b : Bool) → item_for false g.names v.held j.unit ≡ b → j.kind ≡ Start → b ≡ false
      by true is start =
          absurd (true≢false (sym (told_held j.unit (waiting_known j h.waits) is) ∙ not_deactivating (active_state_of (state_of_unit s.units j.unit).sub) (h.still start)))
      by false is start = refl

  pub still_here : ((j : Job) → ¬ IsReadyIn g v j) → IsStill s
  still_here none j h = none j (ready_there j h)

  pub next_here : (u : ℕ) (name : List ℕ) (kind : JobKind) → IsNumberOf g u name → IsLeast IsToldBefore (IsReadyIn g v) (job_named g u kind)
      → is_held_back s name kind ≡ false → Begins s (record { unit = name; kind = kind })
  next_here u name kind number least free =
      let is = name_is g.names u name number in
      subst (λ x. Begins s (record { unit = x; kind = kind })) is (record {
        has = ready_here (job_named g u kind) least.has (subst (λ x. is_held_back s x kind ≡ false) (sym is) free);
        first = λ other ready apart. least.first other (ready_there other ready) apart;
      })

-- ---- a start that is found, and held back

abbrev one_free : Bool → ℕ
one_free true = 0
one_free false = 1

-- the count of units that aren't marked as deactivating
abbrev pub free_in : List Bool → ℕ
free_in held = sum_by one_free held

held_starts : (s : State) (name : List ℕ) (kind : JobKind) → is_held_back s name kind ≡ true → (kind ≡ Start) × (deactivates s name ≡ true)
held_starts s name Stop is = absurd (true≢false (sym is))
held_starts s name Start is = (refl, is)

module _ (g : GraphView) (s : State) (v : JobsView) (tells : Tells g s v) (u : ℕ) (kind : JobKind) (within : u < length v.graph.names)
    (least : IsLeast IsToldBefore (IsReadyIn v.graph v) (job_named v.graph u kind)) where
  within_here : u < length g.names
  within_here = subst (λ (x : GraphView). u < length x.names) tells.same within

  pub found_named : IsNumberOf g u (name_at g.names u)
  found_named = name_got g.names u within_here

  pub found_least : IsLeast IsToldBefore (IsReadyIn g v) (job_named g u kind)
  found_least = subst (λ x. IsLeast IsToldBefore (IsReadyIn x v) (job_named x u kind)) tells.same least

  module _ (back : is_held_back s (name_at g.names u) kind ≡ true) (w : JobsView) (is : w ≡ with_held_at v u true) where
    starts_it : (kind ≡ Start) × (deactivates s (name_at g.names u) ≡ true)
    starts_it = held_starts s (name_at g.names u) kind back

    wide_there : u < length v.held
    wide_there = omega (arith, within_here, tells.wide)

    free_there : held_at v.held u ≡ false
    free_there = sym (item_at false g.names v.held (names_once g.names tells.graph.sorted) u within_here) ∙ found_least.has.still starts_it.0

    -- fewer are left
    pub back_drops : free_in w.held < free_in v.held
    back_drops =
        let sums = sum_by-set one_free v.held u true false wide_there in
        let one : one_free (held_at v.held u) ≡ 1 = ap one_free free_there in
        let held : free_in w.held ≡ free_in (set v.held u true) = ap (λ (x : JobsView). free_in x.held) is in
        omega (arith, sums, one, held)

    pub back_told : Tells g s w
    back_told = subst (Tells g s) (sym is) (record {
      graph = tells.graph;
      same = tells.same;
      long = tells.long;
      wide = length-set v.held u true ∙ tells.wide;
      jobs = tells.jobs;
      held = held_now;
    })
      where
        held_now : (i : ℕ) (unit : List ℕ) → IsNumberOf g i unit → held_at (set v.held u true) i ≡ true → deactivates s unit ≡ true
        held_now i unit m e = elim (cases_eq i u) as (λ _. deactivates s unit ≡ true) [
          | inl at ↦ subst (λ x. deactivates s x ≡ true) (ap (name_at g.names) (sym at) ∙ name_is g.names i unit m) starts_it.1
          | inr apart ↦ tells.held i unit m (sym (get_or-set_other v.held u i true false apart) ∙ e)
        ]

-- ---- a job that begins is one fewer that waits

abbrev pub waiting_in : GraphView → State → ℕ
waiting_in g s = sum_by (λ n. waits_in (jobs_of_unit s.pending n)) g.names

running_waits : (kind : JobKind) (j : UnitJobs) → job_of kind j ≡ Some Waiting → waits_in (with_running kind j) + 1 ≤ waits_in j
running_waits Stop j is = let one = ap waits is in omega arith
running_waits Start j is = let one = ap waits is in omega arith

pub begun_drops : (g : GraphView) (s b u : State) (j : Job) → state_of_job s.pending j ≡ Some Waiting → Contains g.names j.unit → b ≡ begun s j → NoMoreWait u.pending b.pending → waiting_in g u < waiting_in g s
begun_drops g s b u j w known is none =
    let drops = sum_drops g.names (λ n. waits_in (jobs_of_unit u.pending n)) (λ n. waits_in (jobs_of_unit s.pending n)) falls j.unit known (omega (arith, here, none j.unit)) in
    omega arith
  where
    here : waits_in (jobs_of_unit b.pending j.unit) + 1 ≤ waits_in (jobs_of_unit s.pending j.unit)
    here =
        let e : waits_in (jobs_of_unit b.pending j.unit) ≡ waits_in (with_running j.kind (jobs_of_unit s.pending j.unit)) =
        ap waits_in (ap (λ (x : State). jobs_of_unit x.pending j.unit) is ∙ jobs_here s.pending j.unit (with_running j.kind (jobs_of_unit s.pending j.unit))) in
        let less = running_waits j.kind (jobs_of_unit s.pending j.unit) w in
        omega arith

    falls : (n : List ℕ) → waits_in (jobs_of_unit u.pending n) ≤ waits_in (jobs_of_unit s.pending n)
    falls n = elim (same_name n j.unit) as (λ _. waits_in (jobs_of_unit u.pending n) ≤ waits_in (jobs_of_unit s.pending n)) [
      | inl same ↦
          let less : waits_in (jobs_of_unit u.pending j.unit) ≤ waits_in (jobs_of_unit s.pending j.unit) = omega (arith, here, none j.unit) in
          subst (λ x. waits_in (jobs_of_unit u.pending x) ≤ waits_in (jobs_of_unit s.pending x)) (sym same) less
      | inr apart ↦
          let e : waits_in (jobs_of_unit b.pending n) ≡ waits_in (jobs_of_unit s.pending n) =
          ap waits_in (ap (λ (x : State). jobs_of_unit x.pending n) is ∙ jobs_apart s.pending j.unit (with_running j.kind (jobs_of_unit s.pending j.unit)) n apart) in
          omega (arith, e, none n)
    ]

-- if a unit's job gets another state both by number and by name, it has that state in the state, and the table agrees with it
module _ (to : JobState) (g : GraphView) (s b : State) (v w : JobsView) (n : ℕ) (name : List ℕ) (kind : JobKind) (tells : Tells g s v) (number : IsNumberOf g n name)
    (by_number : w ≡ with_jobs_at v n (with_job kind to (jobs_at v.units n))) (by_name : b ≡ record s { pending = with_jobs s.pending name (jobs_at w.units n) }) where
  within_all : n < length v.units
  within_all = let h = got_within g.names n name number in omega (arith, h, tells.long)

  pub made_here : jobs_at w.units n ≡ with_job kind to (jobs_of_unit s.pending name)
  made_here =
      ap (λ (x : JobsView). jobs_at x.units n) by_number
      ∙ (get_or-set_at v.units n n (with_job kind to (jobs_at v.units n)) no_jobs refl within_all ∙ ap (with_job kind to) (tells.jobs n name number))

  pub made_so : b ≡ record s { pending = with_jobs s.pending name (with_job kind to (jobs_of_unit s.pending name)) }
  made_so = by_name ∙ ap (λ jobs. record s { pending = with_jobs s.pending name jobs }) made_here

  pub made_told : Tells g b w
  made_told = record {
    graph = tells.graph;
    same = ap (λ (x : JobsView). x.graph) by_number ∙ tells.same;
    long = ap (λ (x : JobsView). length x.units) by_number ∙ (length-set v.units n (with_job kind to (jobs_at v.units n)) ∙ tells.long);
    wide = ap (λ (x : JobsView). length x.held) by_number ∙ tells.wide;
    jobs = jobs_now;
    held = λ i unit m is.
        ap (λ (x : State). deactivates x unit) units_same ∙ tells.held i unit m (sym (ap (λ (x : JobsView). held_at x.held i) by_number) ∙ is);
  }
    where
      units_same : record s { units = b.units } ≡ s
      units_same = ap (λ (x : State). record s { units = x.units }) by_name

      jobs_now : (i : ℕ) (unit : List ℕ) → IsNumberOf g i unit → jobs_at w.units i ≡ jobs_of_unit b.pending unit
      jobs_now i unit m = elim (same_name unit name) as (λ _. jobs_at w.units i ≡ jobs_of_unit b.pending unit) [
        | inl same ↦
            let at : i ≡ n = names_once g.names tells.graph.sorted i n (got_within g.names i unit m) (got_within g.names n name number)
            (name_is g.names i unit m ∙ (same ∙ sym (name_is g.names n name number))) in
            ap (jobs_at w.units) at
            ∙ (sym (ap (λ (x : State). jobs_of_unit x.pending name) by_name ∙ jobs_here s.pending name (jobs_at w.units n)) ∙ ap (jobs_of_unit b.pending) (sym same))
        | inr apart ↦
            let elsewhere : i ≢ n = λ at. apart (same_Some unit name (sym m ∙ (ap (slice_get g.names) at ∙ number))) in
            ap (λ (x : JobsView). jobs_at x.units i) by_number
            ∙ (get_or-set_other v.units n i (with_job kind to (jobs_at v.units n)) no_jobs elsewhere
            ∙ (tells.jobs i unit m
            ∙ sym (ap (λ (x : State). jobs_of_unit x.pending unit) by_name ∙ jobs_apart s.pending name (jobs_at w.units n) unit apart)))
      ]

-- the table's entry for one unit is refreshed
pub told_anew : (g : GraphView) (s t : State) (v w : JobsView) (n : ℕ) (name : List ℕ) → Tells g s v → IsNumberOf g n name → KeepsOthers name s t → w ≡ told_of t n name v → Tells g t w
told_anew g s t v w n name tells number keeps is = subst (Tells g t) (sym is) (record {
  graph = tells.graph;
  same = tells.same;
  long = length-set v.units n (jobs_of_unit t.pending name) ∙ tells.long;
  wide = length-set v.held n (deactivates t name) ∙ tells.wide;
  jobs = jobs_now;
  held = held_now;
})
  where
    within : n < length g.names
    within = got_within g.names n name number

    here : (i : ℕ) (unit : List ℕ) → i < length g.names → IsNumberOf g i unit → unit ≡ name → i ≡ n
    here i unit below m same = names_once g.names tells.graph.sorted i n below within (name_is g.names i unit m ∙ (same ∙ sym (name_is g.names n name number)))

    elsewhere : (i : ℕ) (unit : List ℕ) → IsNumberOf g i unit → unit ≢ name → i ≢ n
    elsewhere i unit m apart at = apart (same_Some unit name (sym m ∙ (ap (slice_get g.names) at ∙ number)))

    jobs_now : (i : ℕ) (unit : List ℕ) → IsNumberOf g i unit → jobs_at (set v.units n (jobs_of_unit t.pending name)) i ≡ jobs_of_unit t.pending unit
    jobs_now i unit m = elim (same_name unit name) as (λ _. jobs_at (set v.units n (jobs_of_unit t.pending name)) i ≡ jobs_of_unit t.pending unit) [
      | inl same ↦ get_or-set_at v.units n i (jobs_of_unit t.pending name) no_jobs (here i unit (got_within g.names i unit m) m same) (omega (arith, within, tells.long)) ∙ ap (jobs_of_unit t.pending) (sym same)
      | inr apart ↦
          get_or-set_other v.units n i (jobs_of_unit t.pending name) no_jobs (λ e. elsewhere i unit m apart (omega (arith, e))) ∙ (tells.jobs i unit m ∙ sym (keeps.jobs unit apart))
    ]

    held_now : (i : ℕ) (unit : List ℕ) → IsNumberOf g i unit → held_at (set v.held n (deactivates t name)) i ≡ true → deactivates t unit ≡ true
    held_now i unit m is = elim (same_name unit name) as (λ _. deactivates t unit ≡ true) [
      | inl same ↦
          let told = get_or-set_at v.held n i (deactivates t name) false (here i unit (got_within g.names i unit m) m same) (omega (arith, within, tells.wide)) in
          ap (deactivates t) same ∙ (sym told ∙ is)
      | inr apart ↦
          let told = get_or-set_other v.held n i (deactivates t name) false (λ e. elsewhere i unit m apart (omega (arith, e))) in
          ap (λ u. is_deactivating (active_state_of u.sub)) (keeps.states unit apart) ∙ tells.held i unit m (sym told ∙ is)
    ]
