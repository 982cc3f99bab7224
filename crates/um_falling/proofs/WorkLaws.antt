-- A step in work: the parts that stay, and the graph still serves when a unit of it is set.
use Rattle.std.proofs.Common.{◌≡◌, ◌≢◌, ◌∙◌, ◌<◌, ◌++◌, ◌∷◌, ◌+◌, ℕ, suc, true, false, cond, List, [], Contains, Some, drop, get_or, length, slice_get, refl, sym, ap, subst, inl, inr, arith}
use Rattle.std.proofs.Math.Seq.{drop-cons}
use Rattle.std.proofs.lemmas.Bool.{cases_lt}
use Rattle.std.proofs.lemmas.List.{get_or_default}
use Rattle.std.proofs.lemmas.Option.{get_or_from_slice_get, slice_get-get_or}
use Rattle.um_model.specs.Jobs.{jobs_of_unit, no_jobs, with_jobs}
use Rattle.um_model.specs.Machine as machine
use Rattle.um_model.specs.Machine.{State, IsHeld, is_waiting}
use Rattle.um_model.specs.Service.{Action, dead_unit, with_unit}
use Rattle.um_model.specs.Standing.{Standing}
use Rattle.um_model.specs.declared.jobs.UnitJobs.{UnitJobs}
use Rattle.um_model.specs.declared.service.UnitState.{UnitState}
use Rattle.um_model.specs.declared.transition.UnitEvent.TheVariants.{BoundStop}
use Rattle.um_model.proofs.TimersLaws.{same_name}
use Rattle.um_graph.specs.Graph.{GraphView, IsNumberOf, row_of}
use Rattle.um_graph.specs.declared.row.Neighbour.{Neighbour}
use Rattle.um_name.specs.Names.{name_at}
use Rattle.um_graph.proofs.NamedLaws.{got_within}
use Rattle.um_state.specs.View.{state_of}
use Rattle.um_state.specs.Working.{jobs_set, unit_set}
use Rattle.um_state.proofs.PutLaws.{jobs_put_well, units_put}
use Rattle.um_state.proofs.TableLaws.{put_past, put_within}
use Rattle.um_falling.specs.Along.{Taking, taken, taken_all, taken_by, taken_named, taken_next, without_start_of}
use Rattle.um_falling.specs.Carrying.{Adds}
use Rattle.um_falling.specs.Falling.{AddsFalling, AreNamed, StopsIf, sub_of}
use Rattle.um_falling.specs.Over.{Serves}
use Rattle.um_falling.specs.Work.{Goes, Keeps, WorkView}
use Rattle.um_falling.proofs.AlongLaws.{pending_apart, units_apart}

-- ---- the parts that stay

pub keeps_all : (v : WorkView) → Keeps v v
keeps_all v = record { graph = refl; base = refl; moment = refl; serves = λ h. h }

pub keeps_then : (u v w : WorkView) → Keeps u v → Keeps v w → Keeps u w
keeps_then u v w first later = record {
  graph = later.graph ∙ first.graph;
  base = later.base ∙ first.base;
  moment = later.moment ∙ first.moment;
  serves = λ h. later.serves (first.serves h);
}

-- the number is one of the graph still
pub number_on : (v w : WorkView) (unit : ℕ) (name : List ℕ) → Keeps v w → IsNumberOf v.graph unit name → IsNumberOf w.graph unit name
number_on v w unit name keeps number = subst (λ g. IsNumberOf g unit name) (sym keeps.graph) number

-- the unit with a number has a name
pub numbered : (g : GraphView) (unit : ℕ) → unit < length g.names → IsNumberOf g unit (name_at g.names unit)
numbered g unit within = slice_get-get_or g.names unit [] within

-- ---- the graph serves on

module _ (g : GraphView) (s : State) (serves : Serves g s) where
  pub serves_unit : (name : List ℕ) (stands : UnitState) → Contains g.names name → Serves g (record s { units = with_unit s.units name stands })
  serves_unit name stands known = record { extra = serves.extra; graph = serves.graph; of = serves.of; held = held_now }
    where
      held_before : (x : List ℕ) → x ≢ name → IsHeld (record s { units = with_unit s.units name stands }) x → IsHeld s x
      held_before x apart (inl h) = inl (λ e. h (units_apart s.units name stands x apart ∙ e))
      held_before x apart (inr h) = inr h

      held_now : (x : List ℕ) → IsHeld (record s { units = with_unit s.units name stands }) x → Contains g.names x
      held_now x h = elim (same_name x name) as (λ _. Contains g.names x) [
        | inl is ↦ subst (Contains g.names) (sym is) known
        | inr apart ↦ serves.held x (held_before x apart h)
      ]

  pub serves_jobs : (name : List ℕ) (jobs : UnitJobs) → Contains g.names name → Serves g (record s { pending = with_jobs s.pending name jobs })
  serves_jobs name jobs known = record { extra = serves.extra; graph = serves.graph; of = serves.of; held = held_now }
    where
      held_before : (x : List ℕ) → x ≢ name → IsHeld (record s { pending = with_jobs s.pending name jobs }) x → IsHeld s x
      held_before x apart (inl h) = inl h
      held_before x apart (inr h) = inr (λ e. h (pending_apart s.pending name jobs x apart ∙ e))

      held_now : (x : List ℕ) → IsHeld (record s { pending = with_jobs s.pending name jobs }) x → Contains g.names x
      held_now x h = elim (same_name x name) as (λ _. Contains g.names x) [
        | inl is ↦ subst (Contains g.names) (sym is) known
        | inr apart ↦ serves.held x (held_before x apart h)
      ]

  pub serves_next : (next : ℕ) → Serves g (record s { next = next })
  serves_next next = record { extra = serves.extra; graph = serves.graph; of = serves.of; held = serves.held }

-- ---- from the result of a call to a result over the graph with which the work began

module _ (u v : WorkView) (keeps : Keeps u v) where
  pub taken_on : (unit : ℕ) (before after : Taking) → after ≡ taken_all v.graph (row_of v.graph.rows unit) before
      → after ≡ taken_all u.graph (row_of u.graph.rows unit) before
  taken_on unit before after is = subst (λ (g : GraphView). after ≡ taken_all g (row_of g.rows unit) before) keeps.graph is

  pub carries_on : (w : WorkView) (unit : ℕ) → Keeps v w
      → ((name : List ℕ) → IsNumberOf v.graph unit name → Goes (machine.Carries v.moment name BoundStop (state_of v.now)) v w)
      → (name : List ℕ) → IsNumberOf u.graph unit name → Serves u.graph (state_of v.now)
      → Adds (machine.Carries u.moment name BoundStop (state_of v.now)) v.actions (state_of w.now) w.actions × Serves u.graph (state_of w.now)
  carries_on w unit later carries name number serves = (
    subst (λ m. Adds (machine.Carries m name BoundStop (state_of v.now)) v.actions (state_of w.now) w.actions) keeps.moment (carries name (number_on u v unit name keeps number)),
    subst (λ g. Serves g (state_of w.now)) (later.graph ∙ keeps.graph) (later.serves (subst (λ g. Serves g (state_of v.now)) (sym keeps.graph) serves)),
  )

  pub adds_on : (s t : State) (unit : ℕ) (list after : List ℕ)
      → ((name : List ℕ) → IsNumberOf v.graph unit name → AddsFalling v.graph s (sub_of t name) name list after)
      → (name : List ℕ) → IsNumberOf u.graph unit name → AddsFalling u.graph s (sub_of t name) name list after
  adds_on s t unit list after adds name number = subst (λ g. AddsFalling g s (sub_of t name) name list after) keeps.graph (adds name (number_on u v unit name keeps number))

  pub stops_on : (s t : State) (unit : ℕ) (list after : List ℕ) → StopsIf (slice_get v.graph.names unit) s list t after → StopsIf (slice_get u.graph.names unit) s list t after
  stops_on s t unit list after stops = subst (λ (g : GraphView). StopsIf (slice_get g.names unit) s list t after) keeps.graph stops

module _ (u v w : WorkView) (keeps : Keeps u v) (later : Keeps v w) (list : List ℕ) where
  pub falls_on : ((names : List (List ℕ)) → AreNamed v.graph list names → Goes (machine.FallDown v.moment names (state_of v.now)) v w)
      → (names : List (List ℕ)) → AreNamed u.graph list names → Serves u.graph (state_of v.now)
      → Adds (machine.FallDown u.moment names (state_of v.now)) v.actions (state_of w.now) w.actions × Serves u.graph (state_of w.now)
  falls_on falls names named serves = (
    subst (λ m. Adds (machine.FallDown m names (state_of v.now)) v.actions (state_of w.now) w.actions) keeps.moment (falls names (subst (λ g. AreNamed g list names) (sym keeps.graph) named)),
    subst (λ g. Serves g (state_of w.now)) (later.graph ∙ keeps.graph) (later.serves (subst (λ g. Serves g (state_of v.now)) (sym keeps.graph) serves)),
  )

pub serves_still : (u v : WorkView) → Keeps u v → Serves u.graph (state_of u.now) → Serves u.graph (state_of v.now)
serves_still u v keeps serves = subst (λ g. Serves g (state_of v.now)) keeps.graph (keeps.serves serves)

-- ---- the result of a call for the unit with a number, over the graph
pub taken_at : (g : GraphView) (unit : ℕ) (m : Taking) (name : List ℕ) → IsNumberOf g unit name → taken g unit m ≡ taken_named name unit m
taken_at g unit m name number = ap (λ o. taken_by o unit m) number

module _ (g : GraphView) (unit : ℕ) (name : List ℕ) (number : IsNumberOf g unit name) (m : Taking) where
  abbrev gone : Taking
  gone = (without_start_of m.0 name, m.1 ++ unit ∷ [])

  -- no start of it waits, and all stays
  pub taken_not : is_waiting (jobs_of_unit m.0.pending name).start ≡ false → m ≡ taken g unit m
  taken_not quiet = sym (taken_at g unit m name number ∙ ap (λ b. cond b gone m) quiet)

  -- one does, and is gone
  pub taken_so : (s : State) (l : List ℕ) → is_waiting (jobs_of_unit m.0.pending name).start ≡ true → s ≡ without_start_of m.0 name → l ≡ m.1 ++ unit ∷ [] → (s, l) ≡ taken g unit m
  taken_so s l waits same more = (λ i. (same i, more i)) ∙ sym (taken_at g unit m name number ∙ ap (λ b. cond b gone m) waits)

-- one neighbour more is gone through
pub next_taken : (g h : GraphView) (row : List Neighbour) (i : ℕ) (d : Neighbour) (before after whole : Taking) → i < length row → h ≡ g
    → after ≡ taken_next h (get_or row i d) before → taken_all g (drop i row) before ≡ whole → taken_all g (drop (i + 1) row) after ≡ whole
next_taken g h row i d before after whole within same is all =
    let n = get_or row i d in
    let more : i + 1 ≡ suc i = omega arith in
    ap (taken_all g (drop (i + 1) row)) (is ∙ ap (λ x. taken_next x n before) same)
    ∙ (ap (λ k. taken_all g (drop k row) (taken_next g n before)) more
    ∙ (sym (ap (λ ns. taken_all g ns before) (drop-cons row i d within)) ∙ all))

-- ---- the rows, by the graph's numbers

-- the view of the work
abbrev pub seen_as : GraphView → Standing → Standing → ℕ → List Action → WorkView
seen_as g base now moment actions = record { graph = g; base = base; now = now; moment = moment; actions = actions }

at_number : (names : List (List ℕ)) (unit : ℕ) (name : List ℕ) → slice_get names unit ≡ Some name → (unit < length names) × (name_at names unit ≡ name)
at_number names unit name number = (got_within names unit name number, get_or_from_slice_get names unit name [] number)

module _ (v : WorkView) (g : GraphView) (base now : Standing) (moment : ℕ) (actions : List Action) (seen : seen_as g base now moment actions ≡ v) (same : now.names ≡ g.names) where
  -- the value of the name with the number is the unit's
  pub told_by : {A : Type 0} (look : State → List ℕ → A) (unit : ℕ) (x : A) → (unit < length now.names → x ≡ look (state_of now) (name_at now.names unit))
      → (name : List ℕ) → IsNumberOf v.graph unit name → x ≡ look (state_of v.now) name
  told_by look unit x told = subst (λ (w : WorkView). (name : List ℕ) → IsNumberOf w.graph unit name → x ≡ look (state_of w.now) name) seen here
    where
      here : (name : List ℕ) → IsNumberOf g unit name → x ≡ look (state_of now) name
      here name number =
          let at = at_number now.names unit name (subst (λ ns. slice_get ns unit ≡ Some name) (sym same) number) in
          told at.0 ∙ ap (look (state_of now)) at.1

  pub unit_set_by : (unit : ℕ) (stands : UnitState) (then : Standing) → then ≡ unit_set now unit stands → (name : List ℕ) → IsNumberOf v.graph unit name
      → state_of then ≡ record (state_of v.now) { units = with_unit (state_of v.now).units name stands }
  unit_set_by unit stands then is = subst (λ (w : WorkView). (name : List ℕ) → IsNumberOf w.graph unit name → state_of then ≡ record (state_of w.now) { units = with_unit (state_of w.now).units name stands }) seen here
    where
      here : (name : List ℕ) → IsNumberOf g unit name → state_of then ≡ record (state_of now) { units = with_unit (state_of now).units name stands }
      here name number =
          let at = at_number now.names unit name (subst (λ ns. slice_get ns unit ≡ Some name) (sym same) number) in
          let put = put_within dead_unit with_unit units_put now.names (state_of now).units unit stands at.0 ∙ ap (λ n. with_unit (state_of now).units n stands) at.1 in
          ap state_of is ∙ (λ i. record (state_of now) { units = put i })

  pub jobs_set_by : (unit : ℕ) (jobs : UnitJobs) (then : Standing) → then ≡ jobs_set now unit jobs → (name : List ℕ) → IsNumberOf v.graph unit name
      → state_of then ≡ record (state_of v.now) { pending = with_jobs (state_of v.now).pending name jobs }
  jobs_set_by unit jobs then is = subst (λ (w : WorkView). (name : List ℕ) → IsNumberOf w.graph unit name → state_of then ≡ record (state_of w.now) { pending = with_jobs (state_of w.now).pending name jobs }) seen here
    where
      here : (name : List ℕ) → IsNumberOf g unit name → state_of then ≡ record (state_of now) { pending = with_jobs (state_of now).pending name jobs }
      here name number =
          let at = at_number now.names unit name (subst (λ ns. slice_get ns unit ≡ Some name) (sym same) number) in
          let put = put_within no_jobs with_jobs jobs_put_well now.names (state_of now).pending unit jobs at.0 ∙ ap (λ n. with_jobs (state_of now).pending n jobs) at.1 in
          ap state_of is ∙ (λ i. record (state_of now) { pending = put i })

  -- the work with other rows keeps its other parts
  pub keeps_set : (then : Standing) → (Serves g (state_of now) → Serves g (state_of then)) → Keeps v (seen_as g base then moment actions)
  keeps_set then serves = record {
    graph = ap (λ (w : WorkView). w.graph) seen;
    base = ap (λ (w : WorkView). w.base) seen;
    moment = ap (λ (w : WorkView). w.moment) seen;
    serves = λ before. serves (subst (λ (w : WorkView). Serves w.graph (state_of w.now)) (sym seen) before);
  }

-- the graph still serves when a unit with a number is set, and when none is
module _ (g : GraphView) (now : Standing) (same : now.names ≡ g.names) (serves : Serves g (state_of now)) (unit : ℕ) where
  known_at : unit < length now.names → Contains g.names (name_at now.names unit)
  known_at within = subst (λ ns. Contains ns (name_at now.names unit)) same (unit, within, get_or_default now.names unit (name_at now.names unit) [] within)

  pub serves_unit_set : (stands : UnitState) → Serves g (state_of (unit_set now unit stands))
  serves_unit_set stands = elim (cases_lt unit (length now.names)) as (λ _. Serves g (state_of (unit_set now unit stands))) [
    | inl within ↦ subst (λ m. Serves g (record (state_of now) { units = m })) (sym (put_within dead_unit with_unit units_put now.names (state_of now).units unit stands within))
        (serves_unit g (state_of now) serves (name_at now.names unit) stands (known_at within))
    | inr past ↦ subst (λ m. Serves g (record (state_of now) { units = m })) (sym (put_past dead_unit with_unit units_put now.names (state_of now).units unit stands past)) serves
  ]

  pub serves_jobs_set : (jobs : UnitJobs) → Serves g (state_of (jobs_set now unit jobs))
  serves_jobs_set jobs = elim (cases_lt unit (length now.names)) as (λ _. Serves g (state_of (jobs_set now unit jobs))) [
    | inl within ↦ subst (λ m. Serves g (record (state_of now) { pending = m })) (sym (put_within no_jobs with_jobs jobs_put_well now.names (state_of now).pending unit jobs within))
        (serves_jobs g (state_of now) serves (name_at now.names unit) jobs (known_at within))
    | inr past ↦ subst (λ m. Serves g (record (state_of now) { pending = m })) (sym (put_past no_jobs with_jobs jobs_put_well now.names (state_of now).pending unit jobs past)) serves
  ]
