-- The first unit with a ready job by its row has the least ready job.
use Rattle.std.proofs.Common.{◌≡◌, ◌≢◌, ◌⊎◌, ◌∙◌, ◌<◌, ◌&&◌, ◌||◌, ℕ, zero, suc, Bool, true, false, true≢false, cond, not, List, [], ◌∷◌, length, Contains, Option, Some, None, is_none, is_some, refl, sym, ap, subst, inl, inr, arith}
use Rattle.std.specs.List.{list_any}
use Rattle.std.proofs.lemmas.Bool.{and_from, and_parts, cases_lt, not-true, or_cases, or_left, or_right}
use Rattle.um_model.specs.Jobs.{Job, ComesBefore, GoesBefore, IsToldBefore, by_name, job_of, jobs_of_unit, no_jobs, of_one_unit, start_job, starts, state_of_job, stop_first, stop_job, stops, stops_then_starts, stops_then_starts_before}
use Rattle.um_model.specs.Least.{IsLeast, IsNamedBefore}
use Rattle.um_model.specs.Machine.{is_waiting}
use Rattle.um_model.specs.Service.{ByUnit}
use Rattle.um_model.specs.declared.jobs.JobKind.{JobKind}
use Rattle.um_model.specs.declared.jobs.JobKind.TheVariants.{Stop, Start}
use Rattle.um_model.specs.declared.jobs.JobState.{JobState}
use Rattle.um_model.specs.declared.jobs.JobState.TheVariants.{Waiting, Running}
use Rattle.um_model.specs.declared.jobs.UnitJobs.{UnitJobs}
use Rattle.um_graph.specs.Graph.{GraphView, IsGraph, Stands, row_of}
use Rattle.um_graph.specs.Kinds.{after_bit, before_bit, has}
use Rattle.um_graph.specs.Named.{Joins, name_at}
use Rattle.um_graph.specs.declared.row.Neighbour.{Neighbour}
use Rattle.um_graph.proofs.NamedLaws.{AreOnce, IsAmong, among_or_apart, got_within, item_at, name_got, name_is, named_before, names_once, not_before}
use Rattle.um_graph.proofs.StandLaws.{stands_within}
use Rattle.um_jobs.specs.Jobs.{IsReadyIn, JobsView, held_at, job_named}
use Rattle.um_jobs.specs.Named.{jobs_at, jobs_by}
use Rattle.um_jobs.specs.RowReady.{holds_start, holds_stop, is_start_ready, is_stop_ready, ready_kind}
use Rattle.um_jobs.proofs.NamedLaws.{jobs_by_at, jobs_by_none}

-- ---- tests
true_not : (b : Bool) → (b ≡ true → ⊥) → not b ≡ true
true_not true h = absurd (h refl)
true_not false h = refl

not_false : (b : Bool) → b ≡ false → b ≡ true → ⊥
not_false b e f = true≢false (sym f ∙ e)

pub any_in : {A : Type 0} (p : A → Bool) (xs : List A) (x : A) → Contains xs x → p x ≡ true → list_any p xs ≡ true
any_in p [] x (k, h, e) t = absurd (omega arith)
any_in p (z ∷ xs) x (zero, h, e) t = or_left (p z) (list_any p xs) (ap p e ∙ t)
any_in p (z ∷ xs) x (suc k, h, e) t = or_right (p z) (list_any p xs) (any_in p xs x (k, omega arith, e) t)

pub in_any : {A : Type 0} (p : A → Bool) (xs : List A) → list_any p xs ≡ true → (x : A) × Contains xs x × (p x ≡ true)
in_any p [] t = cc
in_any p (z ∷ xs) t = elim (or_cases (p z) (list_any p xs) t) as (λ _. (x : _) × Contains (z ∷ xs) x × (p x ≡ true)) [
  | inl h ↦ (z, (0, omega arith, refl), h)
  | inr h ↦ let r = in_any p xs h in (r.0, (suc r.1.0, omega (arith, r.1.1), r.1.2), r.2)
]

some_isnt : (o : Option JobState) → is_some o ≡ true → o ≢ None
some_isnt (Some s) h e = cc
some_isnt None h e = cc

isnt_some : (o : Option JobState) → o ≢ None → is_some o ≡ true
isnt_some (Some s) h = refl
isnt_some None h = absurd (h refl)

none_is : (o : Option JobState) → is_none o ≡ true → o ≡ None
none_is (Some s) h = cc
none_is None h = refl

none_unless : (o : Option JobState) → (is_some o ≡ true → ⊥) → is_none o ≡ true
none_unless (Some s) h = absurd (h refl)
none_unless None h = refl

waiting_is : (o : Option JobState) → is_waiting o ≡ true → o ≡ Some Waiting
waiting_is (Some Waiting) h = refl
waiting_is (Some Running) h = cc
waiting_is None h = cc

-- ---- jobs that go before a stop, and before a start
before_stop : (Before : List ℕ → List ℕ → Type 0) (j k : Job) → GoesBefore Before j k → k.kind ≡ Stop → (y : List ℕ) × Before k.unit y × (j ≡ stop_job y)
before_stop Before j k (starts h) e = cc
before_stop Before j k (stops {y = y} h) e = (y, h, refl)
before_stop Before j k (stops_then_starts h) e = cc
before_stop Before j k (stops_then_starts_before h) e = cc
before_stop Before j k of_one_unit e = cc

data BeforeStart (Before : List ℕ → List ℕ → Type 0) (j k : Job) : Type 0 where
  start_of : (x : List ℕ) → Before x k.unit → j ≡ start_job x → BeforeStart Before j k
  stop_of_earlier : (x : List ℕ) → Before x k.unit → j ≡ stop_job x → BeforeStart Before j k
  stop_of_later : (y : List ℕ) → Before k.unit y → j ≡ stop_job y → BeforeStart Before j k
  own_stop : j ≡ stop_job k.unit → BeforeStart Before j k

before_start : (Before : List ℕ → List ℕ → Type 0) (j k : Job) → GoesBefore Before j k → k.kind ≡ Start → BeforeStart Before j k
before_start Before j k (starts {x = x} h) e = start_of x h refl
before_start Before j k (stops h) e = cc
before_start Before j k (stops_then_starts {x = x} h) e = stop_of_earlier x h refl
before_start Before j k (stops_then_starts_before {y = y} h) e = stop_of_later y h refl
before_start Before j k of_one_unit e = own_stop refl

module _ (g : GraphView) (is : IsGraph g) (v : JobsView) where
  abbrev name : ℕ → List ℕ
  name = name_at g.names

  abbrev pending : ByUnit UnitJobs
  pending = jobs_by g.names v.units

  abbrev Before : List ℕ → List ℕ → Type 0
  Before = Joins g before_bit

  abbrev row : ℕ → List Neighbour
  row = row_of g.rows

  abbrev Inside : ℕ → Type 0
  Inside u = u < length g.names

  once : AreOnce g.names
  once = names_once g.names is.sorted

  held : (k : JobKind) (u : ℕ) → Inside u → job_of k (jobs_of_unit pending (name u)) ≡ job_of k (jobs_at v.units u)
  held k u l = ap (job_of k) (jobs_by_at g.names v.units once u l)

  pends : (k : JobKind) (u : ℕ) → Inside u → is_some (job_of k (jobs_at v.units u)) ≡ true → job_of k (jobs_of_unit pending (name u)) ≢ None
  pends k u l s e = some_isnt (job_of k (jobs_at v.units u)) s (sym (held k u l) ∙ e)

  is_there : (k : JobKind) (u : ℕ) (x : List ℕ) → Inside u → name u ≡ x → job_of k (jobs_of_unit pending x) ≢ None → is_some (job_of k (jobs_at v.units u)) ≡ true
  is_there k u x l n p = isnt_some (job_of k (jobs_at v.units u)) (λ e. p (ap (λ y. job_of k (jobs_of_unit pending y)) (sym n) ∙ (held k u l ∙ e)))

  -- ---- who stands in the row of a unit
  joined : (x y : ℕ) → Stands g.rows before_bit x y → Before (name x) (name y)
  joined x y s = let w = stands_within g is before_bit x y s in record { from = x; to = y; first = name_got g.names x w.0; second = name_got g.names y w.1; stands = s }

  abbrev StandsAs : ℕ → ℕ → List ℕ → Type 0
  StandsAs bit u y = (w : ℕ) × Inside w × (name w ≡ y) × Stands g.rows bit u w

  later : (u : ℕ) (y : List ℕ) → Inside u → Before (name u) y → StandsAs before_bit u y
  later u y l h =
      let same : h.from ≡ u = once h.from u (got_within g.names h.from (name u) h.first) l (name_is g.names h.from (name u) h.first) in
      (h.to, got_within g.names h.to y h.second, name_is g.names h.to y h.second, subst (λ x. Stands g.rows before_bit x h.to) same h.stands)

  earlier : (u : ℕ) (x : List ℕ) → Inside u → Before x (name u) → StandsAs after_bit u x
  earlier u x l h =
      let same : h.to ≡ u = once h.to u (got_within g.names h.to (name u) h.second) l (name_is g.names h.to (name u) h.second) in
      let s : Stands g.rows before_bit h.from u = subst (λ y. Stands g.rows before_bit h.from y) same h.stands in
      (h.from, got_within g.names h.from x h.first, name_is g.names h.from x h.first, (is.ordered u h.from).1 s)

  stands : (bit u : ℕ) (n : Neighbour) → Contains (row u) n → has bit n.kinds ≡ true → Stands g.rows bit u n.unit
  stands bit u n c h = record { neighbour = n; listed = c; is = refl; kind = h }

  -- ---- the stop of a unit
  stop_holds : (u w : ℕ) → Stands g.rows before_bit u w → is_some (jobs_at v.units w).stop ≡ true → list_any (holds_stop v.units) (row u) ≡ true
  stop_holds u w h s =
      any_in (holds_stop v.units) (row u) h.neighbour h.listed
      (and_from (has before_bit h.neighbour.kinds) (is_some (jobs_at v.units h.neighbour.unit).stop) h.kind (subst (λ x. is_some (jobs_at v.units x).stop ≡ true) (sym h.is) s))

  stop_free : (u : ℕ) → Inside u → list_any (holds_stop v.units) (row u) ≡ false → (other : Job) → ¬ ComesBefore Before pending other (stop_job (name u))
  stop_free u l f other c =
      let s = before_stop Before other (stop_job (name u)) c.goes refl in
      let w = later u s.0 l s.1 in
      let p : job_of Stop (jobs_of_unit pending s.0) ≢ None = subst (λ j. state_of_job pending j ≢ None) s.2 c.pends in
      not_false (list_any (holds_stop v.units) (row u)) f (stop_holds u w.0 w.3 (is_there Stop w.0 s.0 w.1 w.2 p))

  stop_sound : (u : ℕ) → Inside u → is_stop_ready g v.units u ≡ true → IsReadyIn g v (stop_job (name u))
  stop_sound u l t =
      let p = and_parts (is_waiting (jobs_at v.units u).stop) (not (list_any (holds_stop v.units) (row u))) t in
      record {
        waits = held Stop u l ∙ waiting_is (jobs_at v.units u).stop p.0;
        free = stop_free u l (not-true (list_any (holds_stop v.units) (row u)) p.1);
        still = λ e. cc;
      }

  stop_whole : (u : ℕ) → Inside u → IsReadyIn g v (stop_job (name u)) → is_stop_ready g v.units u ≡ true
  stop_whole u l r = and_from (is_waiting (jobs_at v.units u).stop) (not (list_any (holds_stop v.units) (row u))) (ap is_waiting (sym (held Stop u l) ∙ r.waits))
      (true_not (list_any (holds_stop v.units) (row u)) (λ t.
      let n = in_any (holds_stop v.units) (row u) t in
      let p = and_parts (has before_bit n.0.kinds) (is_some (jobs_at v.units n.0.unit).stop) n.2 in
      let s = stands before_bit u n.0 n.1 p.0 in
      let w = (stands_within g is before_bit u n.0.unit s).1 in
      r.free (stop_job (name n.0.unit)) (record { pends = pends Stop n.0.unit w p.1; waits = r.waits; goes = stops (joined u n.0.unit s) })))

  -- ---- the start of a unit
  start_holds : (bit u w : ℕ) (h : Stands g.rows bit u w) → holds_start v.units h.neighbour ≡ true → list_any (holds_start v.units) (row u) ≡ true
  start_holds bit u w h t = any_in (holds_start v.units) (row u) h.neighbour h.listed t

  by_start : (n : Neighbour) (w : ℕ) → n.unit ≡ w → has after_bit n.kinds ≡ true → is_some (jobs_at v.units w).start ≡ true → holds_start v.units n ≡ true
  by_start n w e h s =
      or_left (has after_bit n.kinds && is_some (jobs_at v.units n.unit).start) ((has before_bit n.kinds || has after_bit n.kinds) && is_some (jobs_at v.units n.unit).stop)
      (and_from (has after_bit n.kinds) (is_some (jobs_at v.units n.unit).start) h (subst (λ x. is_some (jobs_at v.units x).start ≡ true) (sym e) s))

  by_stop : (n : Neighbour) (w : ℕ) → n.unit ≡ w → (has before_bit n.kinds || has after_bit n.kinds) ≡ true → is_some (jobs_at v.units w).stop ≡ true → holds_start v.units n ≡ true
  by_stop n w e h s =
      or_right (has after_bit n.kinds && is_some (jobs_at v.units n.unit).start) ((has before_bit n.kinds || has after_bit n.kinds) && is_some (jobs_at v.units n.unit).stop)
      (and_from (has before_bit n.kinds || has after_bit n.kinds) (is_some (jobs_at v.units n.unit).stop) h (subst (λ x. is_some (jobs_at v.units x).stop ≡ true) (sym e) s))

  start_free : (u : ℕ) → Inside u → (jobs_at v.units u).stop ≡ None → list_any (holds_start v.units) (row u) ≡ false → (other : Job) → ¬ ComesBefore Before pending other (start_job (name u))
  start_free u l none f other c = by (before_start Before other (start_job (name u)) c.goes refl)
    where
      pended : (j : Job) → other ≡ j → state_of_job pending j ≢ None
      pended j e = subst (λ j. state_of_job pending j ≢ None) e c.pends

      by : BeforeStart Before other (start_job (name u)) → ⊥
      by (start_of x h e) =
          let w = earlier u x l h in
          not_false (list_any (holds_start v.units) (row u)) f
          (start_holds after_bit u w.0 w.3 (by_start w.3.neighbour w.0 w.3.is w.3.kind (is_there Start w.0 x w.1 w.2 (pended (start_job x) e))))
      by (stop_of_earlier x h e) =
          let w = earlier u x l h in
          let n = w.3.neighbour in
          not_false (list_any (holds_start v.units) (row u)) f
          (start_holds after_bit u w.0 w.3 (by_stop n w.0 w.3.is (or_right (has before_bit n.kinds) (has after_bit n.kinds) w.3.kind) (is_there Stop w.0 x w.1 w.2 (pended (stop_job x) e))))
      by (stop_of_later y h e) =
          let w = later u y l h in
          let n = w.3.neighbour in
          not_false (list_any (holds_start v.units) (row u)) f
          (start_holds before_bit u w.0 w.3 (by_stop n w.0 w.3.is (or_left (has before_bit n.kinds) (has after_bit n.kinds) w.3.kind) (is_there Stop w.0 y w.1 w.2 (pended (stop_job y) e))))
      by (own_stop e) = pended (stop_job (name u)) e (held Stop u l ∙ none)

  abbrev start_parts : ℕ → Bool × Bool × Bool
  start_parts u = (is_none (jobs_at v.units u).stop, not (held_at v.held u), not (list_any (holds_start v.units) (row u)))

  start_sound : (u : ℕ) → Inside u → is_start_ready g v.units v.held u ≡ true → IsReadyIn g v (start_job (name u))
  start_sound u l t =
      let s = start_parts u in
      let p = and_parts (is_waiting (jobs_at v.units u).start) (s.0 && (s.1 && s.2)) t in
      let q = and_parts s.0 (s.1 && s.2) p.1 in
      let r = and_parts s.1 s.2 q.1 in
      record {
        waits = held Start u l ∙ waiting_is (jobs_at v.units u).start p.0;
        free = start_free u l (none_is (jobs_at v.units u).stop q.0) (not-true (list_any (holds_start v.units) (row u)) r.1);
        still = λ e. item_at false g.names v.held once u l ∙ not-true (held_at v.held u) r.0;
      }

  start_alone : (u : ℕ) → Inside u → IsReadyIn g v (start_job (name u)) → (n : Neighbour) → Contains (row u) n → holds_start v.units n ≡ true → ⊥
  start_alone u l r n c t = elim (or_cases (has after_bit n.kinds && is_some (jobs_at v.units n.unit).start) ((has before_bit n.kinds || has after_bit n.kinds) && is_some (jobs_at v.units n.unit).stop) t) as (λ _. ⊥) [
    | inl a ↦
        let p = and_parts (has after_bit n.kinds) (is_some (jobs_at v.units n.unit).start) a in
        let s = stands after_bit u n c p.0 in
        r.free (start_job (name n.unit)) (record { pends = pends Start n.unit (stands_within g is after_bit u n.unit s).1 p.1; waits = r.waits; goes = starts (joined n.unit u ((is.ordered u n.unit).0 s)) })
    | inr a ↦
        let p = and_parts (has before_bit n.kinds || has after_bit n.kinds) (is_some (jobs_at v.units n.unit).stop) a in
        elim (or_cases (has before_bit n.kinds) (has after_bit n.kinds) p.0) as (λ _. ⊥) [
          | inl b ↦
              let s = stands before_bit u n c b in
              r.free (stop_job (name n.unit)) (record { pends = pends Stop n.unit (stands_within g is before_bit u n.unit s).1 p.1; waits = r.waits; goes = stops_then_starts_before (joined u n.unit s) })
          | inr b ↦
              let s = stands after_bit u n c b in
              r.free (stop_job (name n.unit)) (record { pends = pends Stop n.unit (stands_within g is after_bit u n.unit s).1 p.1; waits = r.waits; goes = stops_then_starts (joined n.unit u ((is.ordered u n.unit).0 s)) })
        ]
  ]

  start_whole : (u : ℕ) → Inside u → IsReadyIn g v (start_job (name u)) → is_start_ready g v.units v.held u ≡ true
  start_whole u l r =
      let s = start_parts u in
      and_from (is_waiting (jobs_at v.units u).start) (s.0 && (s.1 && s.2)) (ap is_waiting (sym (held Start u l) ∙ r.waits))
      (and_from s.0 (s.1 && s.2)
      (none_unless (jobs_at v.units u).stop (λ t. r.free (stop_job (name u)) (record { pends = pends Stop u l t; waits = r.waits; goes = of_one_unit })))
      (and_from s.1 s.2
      (true_not (held_at v.held u) (λ t. not_false (held_at v.held u) (sym (item_at false g.names v.held once u l) ∙ r.still refl) t))
      (true_not (list_any (holds_start v.units) (row u)) (λ t. let n = in_any (holds_start v.units) (row u) t in start_alone u l r n.0 n.1 n.2))))

  -- ---- the first ready job of a unit
  abbrev kind_by : Bool → Bool → Option JobKind
  kind_by a b = cond a (Some Stop) (cond b (Some Start) None)

  kind_sound : (u : ℕ) → Inside u → (k : JobKind) → ready_kind g v u ≡ Some k → IsReadyIn g v (job_named g u k)
  kind_sound u l k e = by (is_stop_ready g v.units u) (is_start_ready g v.units v.held u) refl refl k e
    where
      by : (a b : Bool) → is_stop_ready g v.units u ≡ a → is_start_ready g v.units v.held u ≡ b → (k : JobKind) → kind_by a b ≡ Some k → IsReadyIn g v (job_named g u k)
      by true b s t Stop e = stop_sound u l s
      by true b s t Start e = cc
      by false true s t Stop e = cc
      by false true s t Start e = start_sound u l t
      by false false s t k e = cc

  stop_first_here : (u : ℕ) → Inside u → IsReadyIn g v (stop_job (name u)) → ready_kind g v u ≡ Some Stop
  stop_first_here u l r = ap (λ a. kind_by a (is_start_ready g v.units v.held u)) (stop_whole u l r)

  kind_whole : (u : ℕ) → Inside u → (k : JobKind) → IsReadyIn g v (job_named g u k) → ready_kind g v u ≡ None → ⊥
  kind_whole u l Stop r e = let f = sym (stop_first_here u l r) ∙ e in some_kind Stop f
    where
      some_kind : (k : JobKind) → Some k ≡ None → ⊥
      some_kind k f = cc
  kind_whole u l Start r e = by (is_stop_ready g v.units u) (ap (kind_by (is_stop_ready g v.units u)) (sym (start_whole u l r)) ∙ e)
    where
      by : (a : Bool) → kind_by a true ≡ None → ⊥
      by true f = cc
      by false f = cc

  -- the unit of a ready job is one of the graph
  none_pending : (k : JobKind) → job_of k no_jobs ≡ None
  none_pending Stop = refl
  none_pending Start = refl

  known_of : (j : Job) → IsReadyIn g v j → IsAmong g.names j.unit
  known_of j r = elim (among_or_apart g.names j.unit) as (λ _. IsAmong g.names j.unit) [
    | inl a ↦ a
    | inr apart ↦ absurd (none_waits (job_of j.kind (jobs_of_unit pending j.unit)) (ap (job_of j.kind) (jobs_by_none g.names v.units j.unit apart) ∙ none_pending j.kind) r.waits)
  ]
    where
      none_waits : (o : Option JobState) → o ≡ None → o ≡ Some Waiting → ⊥
      none_waits o e f = cc

  abbrev AtUnit : ℕ → Job → Type 0
  AtUnit u j = j ≡ job_named g u j.kind

  at_unit : (j : Job) (u : ℕ) → name u ≡ j.unit → AtUnit u j
  at_unit j u e = λ i. record { unit = sym e i; kind = j.kind }

  -- of two ready jobs of one unit
  of_one : (u : ℕ) → Inside u → (k : JobKind) → ready_kind g v u ≡ Some k → (m : JobKind) → IsReadyIn g v (job_named g u m) → job_named g u m ≢ job_named g u k → IsToldBefore (job_named g u k) (job_named g u m)
  of_one u l Stop e Stop r apart = absurd (apart refl)
  of_one u l Stop e Start r apart = stop_first
  of_one u l Start e Stop r apart = absurd (starts_first (sym (stop_first_here u l r) ∙ e))
    where
      starts_first : Some Stop ≡ Some Start → ⊥
      starts_first f = cc
  of_one u l Start e Start r apart = absurd (apart refl)

  -- ---- the least ready job
  pub ready_least : (u : ℕ) → Inside u → (k : JobKind) → ready_kind g v u ≡ Some k → ((w : ℕ) → w < u → ready_kind g v w ≡ None) → IsLeast IsToldBefore (IsReadyIn g v) (job_named g u k)
  ready_least u l k e none = record {
    has = kind_sound u l k e;
    first = λ other r apart.
        let a = known_of other r in
        let s : AtUnit a.0 other = at_unit other a.0 a.2 in
        let there : IsReadyIn g v (job_named g a.0 other.kind) = subst (IsReadyIn g v) s r in
        elim (cases_lt a.0 u) as (λ _. IsToldBefore (job_named g u k) other) [
          | inl lower ↦ absurd (kind_whole a.0 a.1 other.kind there (none a.0 lower))
          | inr past ↦ elim (cases_lt u a.0) as (λ _. IsToldBefore (job_named g u k) other) [
            | inl further ↦ by_name (subst (IsNamedBefore (name u)) a.2 (named_before g.names is.sorted u a.0 further a.1))
            | inr equal ↦
                let same : a.0 ≡ u = omega arith in
                let t : AtUnit u other = subst (λ w. AtUnit w other) same s in
                subst (IsToldBefore (job_named g u k)) (sym t) (of_one u l k e other.kind (subst (IsReadyIn g v) t r) (λ f. apart (t ∙ f)))
          ]
        ];
  }

  pub none_ready : ((w : ℕ) → Inside w → ready_kind g v w ≡ None) → (j : Job) → ¬ IsReadyIn g v j
  none_ready none j r = let a = known_of j r in kind_whole a.0 a.1 j.kind (subst (IsReadyIn g v) (at_unit j a.0 a.2) r) (none a.0 a.1)

  -- ---- the jobs that were passed over
  told_of : (j k : Job) → IsToldBefore j k → IsNamedBefore j.unit k.unit ⊎ (j.unit ≡ k.unit)
  told_of j k (by_name h) = inl h
  told_of j k stop_first = inr refl

  pub least_passes : (u : ℕ) → Inside u → (k : JobKind) → IsLeast IsToldBefore (IsReadyIn g v) (job_named g u k) → (w : ℕ) → w < u → ready_kind g v w ≡ None
  least_passes u l k least w lower = by (ready_kind g v w) refl
    where
      here : Inside w
      here = omega (arith, l, lower)

      apart : (m : JobKind) → job_named g w m ≢ job_named g u k
      apart m same = omega (arith, once w u here l (ap (λ (j : Job). j.unit) same), lower)

      by : (o : Option JobKind) → ready_kind g v w ≡ o → o ≡ None
      by None e = refl
      by (Some m) e = absurd (elim (told_of (job_named g u k) (job_named g w m) (least.first (job_named g w m) (kind_sound w here m e) (apart m))) as (λ _. ⊥) [
        | inl before ↦ not_before g.names is.sorted w u (omega (arith, lower)) l before
        | inr same ↦ omega (arith, once u w l here same, lower)
      ])

  pub none_passes : ((j : Job) → ¬ IsReadyIn g v j) → (w : ℕ) → Inside w → ready_kind g v w ≡ None
  none_passes none w l = by (ready_kind g v w) refl
    where
      by : (o : Option JobKind) → ready_kind g v w ≡ o → o ≡ None
      by None e = refl
      by (Some m) e = absurd (none (job_named g w m) (kind_sound w l m e))
