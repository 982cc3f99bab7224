-- The pairs of numbers are the order of the jobs.
use Rattle.std.proofs.Common.{◌≡◌, ◌≢◌, ◌⊎◌, ◌&&◌, ◌==◌, ◌+◌, ◌*◌, ◌/◌, ◌%◌, ◌<◌, ℕ, zero, suc, Bool, true, false, cond, List, [], ◌∷◌, ◌++◌, length, map, Contains, get_or, Option, Some, None, is_some, slice_index, refl, sym, ap, ◌∙◌, subst, inl, inr, arith}
use Rattle.std.specs.List.{flat_map}
use Rattle.std.proofs.lemmas.Bool.{cases_lt, and_from, and_parts}
use Rattle.std.proofs.lemmas.Bool.Decides.{Decides-eqb}
use Rattle.std.proofs.lemmas.List.Elements.{Contains-append_left, Contains-append_right, Contains-append_cases, Contains-get_or, All-map}
use Rattle.um_model.specs.Jobs.{Job, ComesBefore, GoesBefore, starts, stops, stops_then_starts, stops_then_starts_before, of_one_unit, has_job, job_of, jobs_of_unit, no_jobs}
use Rattle.um_model.specs.Least.{IsNamedBefore}
use Rattle.um_model.specs.Machine.{is_waiting}
use Rattle.um_model.specs.Order.{IsCycle, LeadsTo}
use Rattle.um_order.specs.Pairs as numbers
use Rattle.um_model.specs.Plan.{BeginsWithLeast, NamesCycle, units_of}
use Rattle.um_model.specs.Refusals.{Refused, ordering_cycle}
use Rattle.um_model.specs.Service.{ByUnit}
use Rattle.um_laws.proofs.OrderLaws.{no_cycle}
use Rattle.um_model.specs.declared.jobs.JobKind.{JobKind}
use Rattle.um_model.specs.declared.jobs.JobKind.TheVariants.{Stop, Start}
use Rattle.um_model.specs.declared.jobs.JobState.{JobState}
use Rattle.um_model.specs.declared.jobs.JobState.TheVariants.{Waiting, Running}
use Rattle.um_model.specs.declared.jobs.UnitJobs.{UnitJobs}
use Rattle.um_order.specs.Pairs.{Precedes, IsNumbering, IsLeastFirstCycle}
use Rattle.um_graph.specs.Graph.{GraphView, IsGraph, Stands, row_of}
use Rattle.um_graph.specs.Kinds.{has, before_bit}
use Rattle.um_graph.specs.declared.row.Neighbour.{Neighbour}
use Rattle.um_transact.specs.Order.{ArePairs, Node, node_at, number_of, pair_of, pairs_before, pairs_by, pairs_in}
use Rattle.um_jobs.specs.Named.{jobs_at, jobs_by}
use Rattle.um_graph.specs.Named.{name_at, Joins}
use Rattle.um_graph.proofs.NamedLaws.{IsAmong, IsApart, among_or_apart, got_within, name_got, name_is, names_once, not_before}
use Rattle.um_jobs.proofs.NamedLaws.{jobs_by_at, jobs_by_none}
use Rattle.um_graph.proofs.ListLaws.{contains_flat, flat_contains}
use Rattle.um_graph.proofs.StandLaws.{stands_within}

-- ---- the pairs of the rows, one row after another
pub pairs_more : (rows : List (List Neighbour)) (plan : List UnitJobs) (n : ℕ) (pairs new : List (ℕ × ℕ)) → ArePairs rows plan n pairs → new ≡ pairs ++ pairs_in plan n (row_of rows n) → ArePairs rows plan (n + 1) new
pairs_more rows plan n pairs new a e p = (
  λ c. elim (Contains-append_cases pairs (pairs_in plan n (row_of rows n)) p (subst (λ x. Contains x p) e c)) [
    | inl old ↦ let r = (a p).0 old in (r.0, omega (arith, r.1), r.2)
    | inr here ↦ (n, omega arith, here)
  ],
  λ x h c. subst (λ y. Contains y p) (sym e) (elim (cases_lt x n) as (λ _. Contains (pairs ++ pairs_in plan n (row_of rows n)) p) [
    | inl lower ↦ Contains-append_left pairs (pairs_in plan n (row_of rows n)) p ((a p).1 x lower c)
    | inr past ↦ let at : x ≡ n = omega arith in Contains-append_right pairs (pairs_in plan n (row_of rows n)) p (subst (λ y. Contains (pairs_in plan y (row_of rows y)) p) at c)
  ]),
)

-- ---- one pair
one_cases : (b : Bool) (p q : ℕ × ℕ) → Contains (cond b (p ∷ []) []) q → (b ≡ true) × (p ≡ q)
one_cases true p q (zero, h, e) = (refl, e)
one_cases true p q (suc k, h, e) = absurd (omega arith)
one_cases false p q (k, h, e) = absurd (omega arith)

one_has : (b : Bool) (p : ℕ × ℕ) → b ≡ true → Contains (cond b (p ∷ []) []) p
one_has true p h = (0, omega arith, refl)
one_has false p h = cc

some_isnt : (o : Option JobState) → is_some o ≡ true → o ≢ None
some_isnt (Some s) h e = cc
some_isnt None h e = cc

is_some_by : (o : Option JobState) → o ≢ None → is_some o ≡ true
is_some_by (Some s) h = refl
is_some_by None h = absurd (h refl)

waiting_is : (o : Option JobState) → is_waiting o ≡ true → o ≡ Some Waiting
waiting_is (Some Waiting) h = refl
waiting_is (Some Running) h = cc
waiting_is None h = cc

-- ---- a unit without a job is in no pair
jobless : (k : JobKind) (j : UnitJobs) → has_job j ≡ false → is_some (job_of k j) ≡ true → ⊥
jobless k j h s = by k j.stop j.start refl refl h s
  where
    by : (k : JobKind) (a b : Option JobState) → j.stop ≡ a → j.start ≡ b → has_job j ≡ false → is_some (job_of k j) ≡ true → ⊥
    by Stop (Some x) b e f h s = cc
    by Stop None b e f h s = cc
    by Start a (Some x) e f h s = by_start a x e f h
      where
        by_start : (a : Option JobState) (x : JobState) → j.stop ≡ a → j.start ≡ Some x → has_job j ≡ false → ⊥
        by_start (Some y) x e f h = cc
        by_start None x e f h = cc
    by Start a None e f h s = cc

is_some_waiting : (o : Option JobState) → is_waiting o ≡ true → is_some o ≡ true
is_some_waiting (Some s) h = refl
is_some_waiting None h = cc

module _ (plan : List UnitJobs) where
  pair_parts : (m n : Node) (e : ℕ × ℕ) → Contains (pair_of plan m n) e
      → (is_some (job_of m.0 (jobs_at plan m.1)) ≡ true) × (is_waiting (job_of n.0 (jobs_at plan n.1)) ≡ true) × ((number_of m, number_of n) ≡ e)
  pair_parts m n e c =
      let one = one_cases (is_some (job_of m.0 (jobs_at plan m.1)) && is_waiting (job_of n.0 (jobs_at plan n.1))) (number_of m, number_of n) e c in
      let p = and_parts (is_some (job_of m.0 (jobs_at plan m.1))) (is_waiting (job_of n.0 (jobs_at plan n.1))) one.0 in
      (p.0, p.1, one.1)

  -- of the four pairs of two units each
  before_cases : (x y : ℕ) (e : ℕ × ℕ) (P : Type 0) → Contains (pairs_before plan x y) e → (Contains (pair_of plan (Start, x) (Start, y)) e → P) → (Contains (pair_of plan (Stop, y) (Stop, x)) e → P)
      → (Contains (pair_of plan (Stop, x) (Start, y)) e → P) → (Contains (pair_of plan (Stop, y) (Start, x)) e → P) → P
  before_cases x y e P c f g h i = elim (Contains-append_cases (pair_of plan (Start, x) (Start, y)) (pair_of plan (Stop, y) (Stop, x) ++ (pair_of plan (Stop, x) (Start, y) ++ pair_of plan (Stop, y) (Start, x))) e c) as (λ _. P) [
    | inl a ↦ f a
    | inr r ↦ elim (Contains-append_cases (pair_of plan (Stop, y) (Stop, x)) (pair_of plan (Stop, x) (Start, y) ++ pair_of plan (Stop, y) (Start, x)) e r) as (λ _. P) [
      | inl a ↦ g a
      | inr t ↦ elim (Contains-append_cases (pair_of plan (Stop, x) (Start, y)) (pair_of plan (Stop, y) (Start, x)) e t) as (λ _. P) [ inl a ↦ h a | inr a ↦ i a ]
    ]
  ]

  by_cases : (x : ℕ) (n : Neighbour) (e : ℕ × ℕ) (b : Bool) → has before_bit n.kinds ≡ b → Contains (cond b (pairs_before plan x n.unit) []) e → (has before_bit n.kinds ≡ true) × Contains (pairs_before plan x n.unit) e
  by_cases x n e true h c = (h, c)
  by_cases x n e false h c = absurd (omega (arith, c.1))

  module _ (x : ℕ) (none : has_job (jobs_at plan x) ≡ false) where
    first_none : (k : JobKind) (n : Node) (e : ℕ × ℕ) → Contains (pair_of plan (k, x) n) e → ⊥
    first_none k n e c = jobless k (jobs_at plan x) none (pair_parts (k, x) n e c).0

    second_none : (k : JobKind) (m : Node) (e : ℕ × ℕ) → Contains (pair_of plan m (k, x)) e → ⊥
    second_none k m e c = jobless k (jobs_at plan x) none (is_some_waiting (job_of k (jobs_at plan x)) (pair_parts m (k, x) e c).1)

    row_none : (ns : List Neighbour) (e : ℕ × ℕ) → Contains (pairs_in plan x ns) e → ⊥
    row_none ns e c = elim (Contains-append_cases (pair_of plan (Stop, x) (Start, x)) (flat_map (pairs_by plan x) ns) e c) as (λ _. ⊥) [
      | inl a ↦ first_none Stop (Start, x) e a
      | inr r ↦
          let f = flat_contains (pairs_by plan x) ns e r in
          let b = by_cases x f.0 e (has before_bit f.0.kinds) refl f.2 in
          before_cases x f.0.unit e ⊥ b.1 (first_none Start (Start, f.0.unit) e) (second_none Stop (Stop, f.0.unit) e) (first_none Stop (Start, f.0.unit) e) (second_none Start (Stop, f.0.unit) e)
    ]

-- the row of a unit without a job gives no pair
pub pairs_past : (rows : List (List Neighbour)) (plan : List UnitJobs) (n : ℕ) (pairs new : List (ℕ × ℕ)) → ArePairs rows plan n pairs → new ≡ pairs → has_job (jobs_at plan n) ≡ false → ArePairs rows plan (n + 1) new
pairs_past rows plan n pairs new a e none p = (
  λ c. let r = (a p).0 (subst (λ x. Contains x p) e c) in (r.0, omega (arith, r.1), r.2),
  λ x h c. elim (cases_lt x n) as (λ _. Contains new p) [
    | inl lower ↦ subst (λ y. Contains y p) (sym e) ((a p).1 x lower c)
    | inr past ↦ let at : x ≡ n = omega arith in absurd (row_none plan n none (row_of rows n) p (subst (λ y. Contains (pairs_in plan y (row_of rows y)) p) at c))
  ],
)

-- ---- jobs and their numbers
node_back : (m : Node) → node_at (number_of m) ≡ m
node_back (Stop, u) = by ((u * 2) % 2 == 0) ((Decides-eqb ((u * 2) % 2) 0).1 (omega arith))
  where
    by : (b : Bool) → b ≡ true → ◌≡◌ {A = Node} (cond b (Stop, (u * 2) / 2) (Start, (u * 2) / 2)) (Stop, u)
    by true h = let e : (u * 2) / 2 ≡ u = omega arith in ap (λ v. (Stop, v)) e
    by false h = cc
node_back (Start, u) = by ((u * 2 + 1) % 2 == 0) (λ t. let e = (Decides-eqb ((u * 2 + 1) % 2) 0).0 t in omega arith)
  where
    by : (b : Bool) → (b ≡ true → ⊥) → ◌≡◌ {A = Node} (cond b (Stop, (u * 2 + 1) / 2) (Start, (u * 2 + 1) / 2)) (Start, u)
    by true h = absurd (h refl)
    by false h = let e : (u * 2 + 1) / 2 ≡ u = omega arith in ap (λ v. (Start, v)) e

unit_of_node : (k : ℕ) → (node_at k).1 ≡ k / 2
unit_of_node k = by (k % 2 == 0)
  where
    by : (b : Bool) → (let p : Node = cond b (Stop, k / 2) (Start, k / 2) in p.1) ≡ k / 2
    by true = refl
    by false = refl

number_within : (m : Node) (n : ℕ) → m.1 < n → number_of m < n * 2
number_within (Stop, u) n h = omega arith
number_within (Start, u) n h = omega arith

abbrev job_named : List (List ℕ) → Node → Job
job_named names m = record { unit = name_at names m.1; kind = m.0 }

abbrev job_at : List (List ℕ) → ℕ → Job
job_at names k = job_named names (node_at k)

abbrev place_by : (names : List (List ℕ)) (x : List ℕ) → IsAmong names x ⊎ IsApart names x → ℕ
place_by names x (inl k) = k.0
place_by names x (inr none) = 0

abbrev place_of : List (List ℕ) → Job → ℕ
place_of names j = number_of (j.kind, place_by names j.unit (among_or_apart names j.unit))

-- ---- cycles
module _ {U V : Type 0} (P : U → U → Type 0) (Q : V → V → Type 0) (f : U → V) (along : (x y : U) → P x y → Q (f x) (f y)) where
  leads_mapped : (x : U) (zs : List U) (y : U) → LeadsTo P x zs y → LeadsTo Q (f x) (map f zs) (f y)
  leads_mapped x [] y h = along x y h
  leads_mapped x (z ∷ zs) y h = (along x z h.0, leads_mapped z zs y h.1)

  pub cycle_mapped : (c : List U) → IsCycle P c → IsCycle Q (map f c)
  cycle_mapped [] h = h
  cycle_mapped (x ∷ xs) h = leads_mapped x xs x h

units_mapped : (names : List (List ℕ)) (c : List ℕ) → units_of (map (job_at names) c) ≡ map (λ k. name_at names (k / 2)) c
units_mapped names [] = refl
units_mapped names (k ∷ c) = λ i. name_at names (unit_of_node k i) ∷ units_mapped names c i

leads_inside : (nodes : ℕ) (pairs : List (ℕ × ℕ)) (inside : (x y : ℕ) → Precedes pairs x y → y < nodes) (x : ℕ) (zs : List ℕ) (y : ℕ) → LeadsTo (Precedes pairs) x zs y → (q : ℕ) → Contains zs q → q < nodes
leads_inside nodes pairs inside x [] y h q (k, l, e) = absurd (omega arith)
leads_inside nodes pairs inside x (z ∷ zs) y h q (zero, l, e) = subst (λ n. n < nodes) e (inside x z h.0)
leads_inside nodes pairs inside x (z ∷ zs) y h q (suc k, l, e) = leads_inside nodes pairs inside z zs y h.1 q (k, omega arith, e)

module _ (g : GraphView) (is : IsGraph g) (plan : List UnitJobs) where
  abbrev after : ByUnit UnitJobs
  after = jobs_by g.names plan

  abbrev IsBefore : List ℕ → List ℕ → Type 0
  IsBefore = Joins g before_bit

  abbrev Before : Job → Job → Type 0
  Before = ComesBefore IsBefore after

  abbrev Inside : Node → Type 0
  Inside m = m.1 < length g.names

  held : (m : Node) → Inside m → job_of m.0 (jobs_of_unit after (name_at g.names m.1)) ≡ job_of m.0 (jobs_at plan m.1)
  held m h = ap (job_of m.0) (jobs_by_at g.names plan (names_once g.names is.sorted) m.1 h)

  -- a pair stands for two jobs of which one is before the other
  abbrev StandsFor : ℕ × ℕ → Type 0
  StandsFor e = (m : Node) × (n : Node) × ((number_of m, number_of n) ≡ e) × Before (job_named g.names m) (job_named g.names n) × Inside n

  pair_stands : (m n : Node) (e : ℕ × ℕ) → Inside m → Inside n → GoesBefore IsBefore (job_named g.names m) (job_named g.names n) → Contains (pair_of plan m n) e → StandsFor e
  pair_stands m n e h k b c =
      let p = pair_parts plan m n e c in (
        m,
        n,
        p.2,
        record {
          pends = λ f. some_isnt (job_of m.0 (jobs_at plan m.1)) p.0 (sym (held m h) ∙ f);
          waits = held n k ∙ waiting_is (job_of n.0 (jobs_at plan n.1)) p.1;
          goes = b;
        },
        k,
      )

  pair_has : (m n : Node) → Inside m → Inside n → Before (job_named g.names m) (job_named g.names n) → Contains (pair_of plan m n) (number_of m, number_of n)
  pair_has m n h k b = one_has (is_some (job_of m.0 (jobs_at plan m.1)) && is_waiting (job_of n.0 (jobs_at plan n.1))) (number_of m, number_of n)
      (and_from (is_some (job_of m.0 (jobs_at plan m.1))) (is_waiting (job_of n.0 (jobs_at plan n.1))) (is_some_by (job_of m.0 (jobs_at plan m.1)) (λ e. b.pends (held m h ∙ e)))
      (ap is_waiting (sym (held n k) ∙ b.waits)))

  joined : (x y : ℕ) → Stands g.rows before_bit x y → IsBefore (name_at g.names x) (name_at g.names y)
  joined x y s = let w = stands_within g is before_bit x y s in record { from = x; to = y; first = name_got g.names x w.0; second = name_got g.names y w.1; stands = s }

  row_stands : (x : ℕ) (e : ℕ × ℕ) → x < length g.names → Contains (pairs_in plan x (row_of g.rows x)) e → StandsFor e
  row_stands x e l c = elim (Contains-append_cases (pair_of plan (Stop, x) (Start, x)) (flat_map (pairs_by plan x) (row_of g.rows x)) e c) as (λ _. StandsFor e) [
    | inl a ↦ pair_stands (Stop, x) (Start, x) e l l of_one_unit a
    | inr r ↦
        let f = flat_contains (pairs_by plan x) (row_of g.rows x) e r in
        let b = by_cases plan x f.0 e (has before_bit f.0.kinds) refl f.2 in
        let s : Stands g.rows before_bit x f.0.unit = record { neighbour = f.0; listed = f.1; is = refl; kind = b.0 } in
        let j = joined x f.0.unit s in
        let w = (stands_within g is before_bit x f.0.unit s).1 in
        before_cases plan x f.0.unit e (StandsFor e) b.1 (pair_stands (Start, x) (Start, f.0.unit) e l w (starts j)) (pair_stands (Stop, f.0.unit) (Stop, x) e w l (stops j))
        (pair_stands (Stop, x) (Start, f.0.unit) e l w (stops_then_starts j)) (pair_stands (Stop, f.0.unit) (Start, x) e w l (stops_then_starts_before j))
  ]

  abbrev Found : ℕ × ℕ → Type 0
  Found e = (x : ℕ) × (x < length g.names) × Contains (pairs_in plan x (row_of g.rows x)) e

  found_before : (x y : ℕ) (h : Stands g.rows before_bit x y) (e : ℕ × ℕ) → Contains (pairs_before plan x y) e → Found e
  found_before x y h e c = (
    x,
    (stands_within g is before_bit x y h).0,
    Contains-append_right (pair_of plan (Stop, x) (Start, x)) (flat_map (pairs_by plan x) (row_of g.rows x)) e
        (contains_flat (pairs_by plan x) (row_of g.rows x) h.neighbour e h.listed (subst (λ b. Contains (cond b (pairs_before plan x h.neighbour.unit) []) e) (sym h.kind) (subst (λ u. Contains (pairs_before plan x u) e) (sym h.is) c))),
  )

  in_before : (x y : ℕ) (e : ℕ × ℕ) → Contains (pair_of plan (Start, x) (Start, y)) e → Contains (pairs_before plan x y) e
  in_before x y e c = Contains-append_left (pair_of plan (Start, x) (Start, y)) (pair_of plan (Stop, y) (Stop, x) ++ (pair_of plan (Stop, x) (Start, y) ++ pair_of plan (Stop, y) (Start, x))) e c

  in_before_2 : (x y : ℕ) (e : ℕ × ℕ) → Contains (pair_of plan (Stop, y) (Stop, x)) e → Contains (pairs_before plan x y) e
  in_before_2 x y e c = Contains-append_right (pair_of plan (Start, x) (Start, y)) (pair_of plan (Stop, y) (Stop, x) ++ (pair_of plan (Stop, x) (Start, y) ++ pair_of plan (Stop, y) (Start, x))) e
      (Contains-append_left (pair_of plan (Stop, y) (Stop, x)) (pair_of plan (Stop, x) (Start, y) ++ pair_of plan (Stop, y) (Start, x)) e c)

  in_before_3 : (x y : ℕ) (e : ℕ × ℕ) → Contains (pair_of plan (Stop, x) (Start, y)) e → Contains (pairs_before plan x y) e
  in_before_3 x y e c = Contains-append_right (pair_of plan (Start, x) (Start, y)) (pair_of plan (Stop, y) (Stop, x) ++ (pair_of plan (Stop, x) (Start, y) ++ pair_of plan (Stop, y) (Start, x))) e
      (Contains-append_right (pair_of plan (Stop, y) (Stop, x)) (pair_of plan (Stop, x) (Start, y) ++ pair_of plan (Stop, y) (Start, x)) e
      (Contains-append_left (pair_of plan (Stop, x) (Start, y)) (pair_of plan (Stop, y) (Start, x)) e c))

  in_before_4 : (x y : ℕ) (e : ℕ × ℕ) → Contains (pair_of plan (Stop, y) (Start, x)) e → Contains (pairs_before plan x y) e
  in_before_4 x y e c = Contains-append_right (pair_of plan (Start, x) (Start, y)) (pair_of plan (Stop, y) (Stop, x) ++ (pair_of plan (Stop, x) (Start, y) ++ pair_of plan (Stop, y) (Start, x))) e
      (Contains-append_right (pair_of plan (Stop, y) (Stop, x)) (pair_of plan (Stop, x) (Start, y) ++ pair_of plan (Stop, y) (Start, x)) e
      (Contains-append_right (pair_of plan (Stop, x) (Start, y)) (pair_of plan (Stop, y) (Start, x)) e c))

  -- two jobs of which one is before the other are jobs of units, and their numbers are a pair
  abbrev ArePaired : Job → Job → Type 0
  ArePaired j k = (m : Node) × (n : Node) × (job_named g.names m ≡ j) × (job_named g.names n ≡ k) × Inside m × Inside n
      × (Contains (pair_of plan m n) (number_of m, number_of n) → Found (number_of m, number_of n))

  named : (kind : JobKind) (u : ℕ) (x : List ℕ) → name_at g.names u ≡ x → job_named g.names (kind, u) ≡ record { unit = x; kind = kind }
  named kind u x e = λ i. record { unit = e i; kind = kind }

  module _ (x y : List ℕ) (h : IsBefore x y) where
    from_named : (kind : JobKind) → job_named g.names (kind, h.from) ≡ record { unit = x; kind = kind }
    from_named kind = named kind h.from x (name_is g.names h.from x h.first)

    to_named : (kind : JobKind) → job_named g.names (kind, h.to) ≡ record { unit = y; kind = kind }
    to_named kind = named kind h.to y (name_is g.names h.to y h.second)

    from_in : h.from < length g.names
    from_in = got_within g.names h.from x h.first

    to_in : h.to < length g.names
    to_in = got_within g.names h.to y h.second

    found_here : (e : ℕ × ℕ) → Contains (pairs_before plan h.from h.to) e → Found e
    found_here e c = found_before h.from h.to h.stands e c

  paired : (j k : Job) → GoesBefore IsBefore j k → IsAmong g.names j.unit → ArePaired j k
  paired j k (starts {x = x} {y = y} h) a =
      ((Start, h.from), (Start, h.to), from_named x y h Start, to_named x y h Start, from_in x y h, to_in x y h, λ c. found_here x y h _ (in_before h.from h.to _ c))
  paired j k (stops {x = x} {y = y} h) a =
      ((Stop, h.to), (Stop, h.from), to_named x y h Stop, from_named x y h Stop, to_in x y h, from_in x y h, λ c. found_here x y h _ (in_before_2 h.from h.to _ c))
  paired j k (stops_then_starts {x = x} {y = y} h) a =
      ((Stop, h.from), (Start, h.to), from_named x y h Stop, to_named x y h Start, from_in x y h, to_in x y h, λ c. found_here x y h _ (in_before_3 h.from h.to _ c))
  paired j k (stops_then_starts_before {x = x} {y = y} h) a =
      ((Stop, h.to), (Start, h.from), to_named x y h Stop, from_named x y h Start, to_in x y h, from_in x y h, λ c. found_here x y h _ (in_before_4 h.from h.to _ c))
  paired j k (of_one_unit {x = x}) a = (
    (Stop, a.0),
    (Start, a.0),
    named Stop a.0 x a.2,
    named Start a.0 x a.2,
    a.1,
    a.1,
    λ c. (a.0, a.1, Contains-append_left (pair_of plan (Stop, a.0) (Start, a.0)) (flat_map (pairs_by plan a.0) (row_of g.rows a.0)) _ c),
  )

  none_pending : (k : JobKind) → job_of k no_jobs ≡ None
  none_pending Stop = refl
  none_pending Start = refl

  -- the unit of a pending job is a unit of the graph
  known_of : (j : Job) → job_of j.kind (jobs_of_unit after j.unit) ≢ None → IsAmong g.names j.unit
  known_of j h = elim (among_or_apart g.names j.unit) as (λ _. IsAmong g.names j.unit) [
    | inl a ↦ a
    | inr none ↦ absurd (h (ap (job_of j.kind) (jobs_by_none g.names plan j.unit none) ∙ none_pending j.kind))
  ]

  place_by_is : (x : List ℕ) (r : IsAmong g.names x ⊎ IsApart g.names x) (i : ℕ) → i < length g.names → name_at g.names i ≡ x → place_by g.names x r ≡ i
  place_by_is x (inl k) i h e = names_once g.names is.sorted k.0 i k.1 h (k.2 ∙ sym e)
  place_by_is x (inr none) i h e = absurd (none i h e)

  place_named : (m : Node) → Inside m → place_of g.names (job_named g.names m) ≡ number_of m
  place_named m h = ap (λ u. number_of (m.0, u)) (place_by_is (name_at g.names m.1) (among_or_apart g.names (name_at g.names m.1)) m.1 h refl)

  module _ (pairs : List (ℕ × ℕ)) (a : ArePairs g.rows plan (length g.names) pairs) where
    to_numbers : (j k : Job) → Before j k → Precedes pairs (place_of g.names j) (place_of g.names k)
    to_numbers j k b =
        let p = paired j k b.goes (known_of j b.pends) in
        let m = p.0 in
        let n = p.1 in
        let here : Before (job_named g.names m) (job_named g.names n) = subst (λ i. Before i (job_named g.names n)) (sym p.2) (subst (λ i. Before j i) (sym p.3) b) in
        let f = p.6 (pair_has m n p.4 p.5 here) in
        let told : Precedes pairs (number_of m) (number_of n) = (a (number_of m, number_of n)).1 f.0 f.1 f.2 in
        let s : number_of m ≡ place_of g.names j = sym (place_named m p.4) ∙ ap (place_of g.names) p.2 in
        let t : number_of n ≡ place_of g.names k = sym (place_named n p.5) ∙ ap (place_of g.names) p.3 in
        subst (λ i. Precedes pairs i (place_of g.names k)) s (subst (λ i. Precedes pairs (number_of m) i) t told)

    -- both numbers of a pair are those of jobs
    inside : (x y : ℕ) → Precedes pairs x y → y < length g.names * 2
    inside x y p =
        let r = (a (x, y)).0 p in
        let s = row_stands r.0 (x, y) r.1 r.2 in
        let at : number_of s.1 ≡ y = ap (λ (e : ℕ × ℕ). e.1) s.2 in
        omega (arith, at, number_within s.1 (length g.names) s.4)

    to_jobs : (x y : ℕ) → Precedes pairs x y → Before (job_at g.names x) (job_at g.names y)
    to_jobs x y p =
        let r = (a (x, y)).0 p in
        let s = row_stands r.0 (x, y) r.1 r.2 in
        let m : node_at x ≡ s.0 = ap node_at (sym (ap (λ (e : ℕ × ℕ). e.0) s.2)) ∙ node_back s.0 in
        let k : node_at y ≡ s.1 = ap node_at (sym (ap (λ (e : ℕ × ℕ). e.1) s.2)) ∙ node_back s.1 in
        subst (λ j. Before (job_named g.names j) (job_at g.names y)) (sym m) (subst (λ j. Before (job_named g.names s.0) (job_named g.names j)) (sym k) s.3)

    -- jobs that can be numbered have no cycle
    pub numbered : (nodes : ℕ) (numbers : List ℕ) → IsNumbering (Precedes pairs) nodes numbers → (cycle : List Job) → ¬ IsCycle Before cycle
    numbered nodes numbers i cycle h =
        no_cycle (slice_index numbers) (Precedes pairs) i.ascends (map (place_of g.names) cycle) (cycle_mapped Before (Precedes pairs) (place_of g.names) to_numbers cycle h)

    least_first : (c : List ℕ) → IsCycle (Precedes pairs) c → numbers.BeginsWithLeast c → BeginsWithLeast (map (λ k. name_at g.names (k / 2)) c)
    least_first [] h l = l
    least_first (x ∷ xs) h l =
        All-map (λ y. ¬ IsNamedBefore y (name_at g.names (x / 2))) (λ k. name_at g.names (k / 2)) xs
        (λ k d i.
        let q = get_or xs k d in
        let within = leads_inside (length g.names * 2) pairs inside x xs x h q (Contains-get_or xs k d i) in
        let more = l k d i in
        not_before g.names is.sorted (x / 2) (q / 2) (omega (arith, more)) (omega (arith, within)))

    -- a cycle of numbers is one of jobs
    pub cycle_named : (c : List ℕ) (units : List (List ℕ)) (r : Refused) → IsLeastFirstCycle (Precedes pairs) c → units ≡ map (λ k. name_at g.names (k / 2)) c → r ≡ ordering_cycle units → NamesCycle IsBefore after r
    cycle_named c units r l e f = record {
      cycle = map (job_at g.names) c;
      closed = cycle_mapped (Precedes pairs) Before (job_at g.names) to_jobs c l.closed;
      least = subst BeginsWithLeast (sym (units_mapped g.names c)) (least_first c l.closed l.least);
      refusal = f ∙ ap ordering_cycle (e ∙ sym (units_mapped g.names c));
    }
