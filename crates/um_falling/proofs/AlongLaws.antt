-- The starts that the code takes along, going from one unit to the next, are those that a failed start takes along.
use Rattle.std.proofs.Common.{◌≡◌, ◌≢◌, ◌⊎◌, ◌∙◌, ◌+◌, ◌<◌, ◌≤◌, ◌&&◌, ◌||◌, ℕ, zero, suc, Bool, true, false, true≢false, cond, List, [], ◌∷◌, ◌++◌, length, sum_by, Contains, Option, Some, None, get_or, slice_get, refl, sym, ap, subst, inl, inr, arith}
use Rattle.std.proofs.lemmas.Bool.{cases_eq, cases_lt, or_cases}
use Rattle.std.proofs.lemmas.List.{get_or_default, length-append}
use Rattle.std.proofs.lemmas.List.Sums.{sum_by-cons}
use Rattle.std.proofs.lemmas.Option.{none-some, get_or_from_slice_get, slice_get-get_or}
use Rattle.std.specs.FinMap as map
use Rattle.std.specs.Cmp.Lexicographic.{nat_list_cmp_total}
use Rattle.std.specs.List.{list_any}
use Rattle.um_model.specs.Jobs.{has_job, jobs_of_unit, with_jobs, without_start}
use Rattle.um_model.specs.Machine.{State, is_waiting}
use Rattle.um_model.specs.Service.{ByUnit, holds_nothing, with_unit}
use Rattle.um_model.specs.declared.jobs.JobState.{JobState}
use Rattle.um_model.specs.declared.jobs.JobState.TheVariants.{Waiting, Running}
use Rattle.um_model.specs.declared.jobs.UnitJobs.{UnitJobs}
use Rattle.um_model.specs.declared.service.UnitState.{UnitState}
use Rattle.um_model.proofs.TimersLaws.{same_name}
use Rattle.um_model.proofs.UnitLaws.{jobs_apart, jobs_here, unlike}
use Rattle.um_model.specs.Waiting.{NoMoreWait, waits, waits_in}
use Rattle.um_graph.specs.Graph.{AreOnce, GraphView, IsNumberOf}
use Rattle.um_graph.specs.declared.row.Neighbour.{Neighbour}
use Rattle.um_graph.proofs.NamedLaws.{got_within}
use Rattle.um_falling.specs.Along.{Taking, is_later, needs_it, taken, taken_all, taken_by, taken_named, taken_next, without_start_of}

-- ---- tests and lists
pub any_in : {A : Type 0} (p : A → Bool) (xs : List A) (x : A) → Contains xs x → p x ≡ true → list_any p xs ≡ true
any_in p [] x (k, h, e) t = absurd (omega arith)
any_in p (z ∷ xs) x (zero, h, e) t = or_left (p z) (list_any p xs) (ap p e ∙ t)
  where
    or_left : (a b : Bool) → a ≡ true → (a || b) ≡ true
    or_left true b h = refl
    or_left false b h = cc
any_in p (z ∷ xs) x (suc k, h, e) t = or_right (p z) (list_any p xs) (any_in p xs x (k, omega arith, e) t)
  where
    or_right : (a b : Bool) → b ≡ true → (a || b) ≡ true
    or_right true b h = refl
    or_right false b h = h

pub in_any : {A : Type 0} (p : A → Bool) (xs : List A) → list_any p xs ≡ true → (x : A) × Contains xs x × (p x ≡ true)
in_any p [] t = cc
in_any p (z ∷ xs) t = elim (or_cases (p z) (list_any p xs) t) as (λ _. (x : _) × Contains (z ∷ xs) x × (p x ≡ true)) [
  | inl h ↦ (z, (0, omega arith, refl), h)
  | inr h ↦ let r = in_any p xs h in (r.0, (suc r.1.0, omega (arith, r.1.1), r.1.2), r.2)
]

pub or_both : (a b : Bool) → (a ≡ true) ⊎ (b ≡ true) → (a || b) ≡ true
or_both true b h = refl
or_both false b (inl h) = absurd (true≢false (sym h))
or_both false b (inr h) = h

pub and_both : (a b : Bool) → a ≡ true → b ≡ true → (a && b) ≡ true
and_both true b h k = k
and_both false b h k = absurd (true≢false (sym h))

pub cons_cases : {A : Type 0} (z : A) (xs : List A) (x : A) → Contains (z ∷ xs) x → (z ≡ x) ⊎ Contains xs x
cons_cases z xs x (zero, h, e) = inl e
cons_cases z xs x (suc k, h, e) = inr (k, omega arith, e)

-- a unit that stands in a row once is one neighbour
pub once_there : (row : List Neighbour) → AreOnce row → (m n : Neighbour) → Contains row m → Contains row n → m.unit ≡ n.unit → m ≡ n
once_there row once m n (i, h, e) (j, k, f) same = elim (cases_eq i j) as (λ _. m ≡ n) [
  | inl is ↦ sym e ∙ (get_or_default row i m n h ∙ (ap (λ p. get_or row p n) is ∙ f))
  | inr other ↦ elim (cases_lt i j) as (λ _. m ≡ n) [
    | inl less ↦ absurd (once i j n less k (ap (λ (x : Neighbour). x.unit) (get_or_default row i n m h ∙ e) ∙ (same ∙ ap (λ (x : Neighbour). x.unit) (sym f))))
    | inr more ↦ absurd (once j i m (omega (arith, more, other)) h (ap (λ (x : Neighbour). x.unit) (get_or_default row j m n k ∙ f) ∙ (sym same ∙ ap (λ (x : Neighbour). x.unit) (sym e))))
  ]
]

pub waiting_is : (o : Option JobState) → is_waiting o ≡ true → o ≡ Some Waiting
waiting_is (Some Waiting) h = refl
waiting_is (Some Running) h = absurd (true≢false (sym h))
waiting_is None h = absurd (true≢false (sym h))

-- ---- the contents of the state for a unit after another unit was put
pub units_apart : (units : ByUnit UnitState) (unit : List ℕ) (u : UnitState) (other : List ℕ) → other ≢ unit → map.get (with_unit units unit u) other ≡ map.get units other
units_apart units unit u other apart = by (holds_nothing u)
  where
    by : (b : Bool) → map.get (cond b (map.remove units unit) (map.insert units unit u)) other ≡ map.get units other
    by true = map.get-remove nat_list_cmp_total units unit other ∙ ap (λ b. cond b None (map.get units other)) (unlike other unit apart)
    by false = map.get-insert nat_list_cmp_total units unit u other ∙ ap (λ b. cond b (Some u) (map.get units other)) (unlike other unit apart)

pub pending_apart : (pending : ByUnit UnitJobs) (unit : List ℕ) (j : UnitJobs) (other : List ℕ) → other ≢ unit → map.get (with_jobs pending unit j) other ≡ map.get pending other
pending_apart pending unit j other apart = by (has_job j)
  where
    by : (b : Bool) → map.get (cond b (map.insert pending unit j) (map.remove pending unit)) other ≡ map.get pending other
    by true = map.get-insert nat_list_cmp_total pending unit j other ∙ ap (λ b. cond b (Some j) (map.get pending other)) (unlike other unit apart)
    by false = map.get-remove nat_list_cmp_total pending unit other ∙ ap (λ b. cond b None (map.get pending other)) (unlike other unit apart)

-- a unit of the graph by its number
pub known_by : (g : GraphView) (i : ℕ) (x : List ℕ) → IsNumberOf g i x → Contains g.names x
known_by g i x n = (i, got_within g.names i x n, get_or_from_slice_get g.names i x x n)

pub number_by : (g : GraphView) (x : List ℕ) → Contains g.names x → (i : ℕ) × IsNumberOf g i x
number_by g x c = (c.0, slice_get-get_or g.names c.0 x c.1 ∙ ap Some c.2)

-- ---- the start of one unit
abbrev pub StartWaits : Taking → List ℕ → Type 0
StartWaits m z = (jobs_of_unit m.0.pending z).start ≡ Some Waiting

named_calm : (y : List ℕ) (u : ℕ) (m : Taking) (z : List ℕ) → StartWaits (taken_named y u m) z → StartWaits m z
named_calm y u m z = by (is_waiting (jobs_of_unit m.0.pending y).start)
  where
    by : (b : Bool) → StartWaits (cond b (without_start_of m.0 y, m.1 ++ u ∷ []) m) z → StartWaits m z
    by true w = elim (same_name z y) as (λ _. StartWaits m z) [
      | inl is ↦ absurd (none-some Waiting (sym (ap (λ j. j.start) (ap (jobs_of_unit (without_start_of m.0 y).pending) is ∙ jobs_here m.0.pending y (without_start (jobs_of_unit m.0.pending y)))) ∙ w))
      | inr apart ↦ sym (ap (λ j. j.start) (jobs_apart m.0.pending y (without_start (jobs_of_unit m.0.pending y)) z apart)) ∙ w
    ]
    by false w = w

named_quiet : (y : List ℕ) (u : ℕ) (m : Taking) → ¬ StartWaits (taken_named y u m) y
named_quiet y u m = by (is_waiting (jobs_of_unit m.0.pending y).start) refl
  where
    by : (b : Bool) → is_waiting (jobs_of_unit m.0.pending y).start ≡ b → ¬ StartWaits (cond b (without_start_of m.0 y, m.1 ++ u ∷ []) m) y
    by true e w = none-some Waiting (sym (ap (λ j. j.start) (jobs_here m.0.pending y (without_start (jobs_of_unit m.0.pending y)))) ∙ w)
    by false e w = true≢false (ap is_waiting (sym w) ∙ e)

module _ (g : GraphView) where
  taken_calm : (u : ℕ) (m : Taking) (z : List ℕ) → StartWaits (taken g u m) z → StartWaits m z
  taken_calm u m z = by (slice_get g.names u)
    where
      by : (o : Option (List ℕ)) → StartWaits (taken_by o u m) z → StartWaits m z
      by None w = w
      by (Some y) w = named_calm y u m z w

  taken_quiet : (u : ℕ) (m : Taking) (y : List ℕ) → IsNumberOf g u y → ¬ StartWaits (taken g u m) y
  taken_quiet u m y n w = named_quiet y u m (subst (λ o. StartWaits (taken_by o u m) y) n w)

  next_calm : (n : Neighbour) (m : Taking) (z : List ℕ) → StartWaits (taken_next g n m) z → StartWaits m z
  next_calm n m z = by (needs_it n && is_later n)
    where
      by : (b : Bool) → StartWaits (cond b (taken g n.unit m) m) z → StartWaits m z
      by true w = taken_calm n.unit m z w
      by false w = w

  all_calm : (ns : List Neighbour) (m : Taking) (z : List ℕ) → StartWaits (taken_all g ns m) z → StartWaits m z
  all_calm [] m z w = w
  all_calm (n ∷ ns) m z w = next_calm n m z (all_calm ns (taken_next g n m) z w)

  pub all_quiet : (ns : List Neighbour) (m : Taking) (n : Neighbour) → Contains ns n → (needs_it n && is_later n) ≡ true → (y : List ℕ) → IsNumberOf g n.unit y
      → ¬ StartWaits (taken_all g ns m) y
  all_quiet [] m n c t y is w = absurd (omega (arith, c.1))
  all_quiet (k ∷ ns) m n c t y is w = elim (cons_cases k ns n c) as (λ _. ⊥) [
    | inl same ↦
        let test : (needs_it k && is_later k) ≡ true = ap (λ x. needs_it x && is_later x) same ∙ t in
        let there : IsNumberOf g k.unit y = subst (λ (x : Neighbour). IsNumberOf g x.unit y) (sym same) is in
        taken_quiet k.unit m y there (subst (λ b. StartWaits (cond b (taken g k.unit m) m) y) test (all_calm ns (taken_next g k m) y w))
    | inr later ↦ all_quiet ns (taken_next g k m) n later t y is w
  ]

-- ---- how many starts wait, with those that are to be followed
abbrev pub left : GraphView → Taking → ℕ
left g m = sum_by (λ n. waits (jobs_of_unit m.0.pending n).start) g.names + length m.1

pub sum_falls : (names : List (List ℕ)) (f h : List ℕ → ℕ) → ((n : List ℕ) → f n ≤ h n) → sum_by f names ≤ sum_by h names
sum_falls [] f h less = omega arith
sum_falls (n ∷ ns) f h less = omega (arith, sum_by-cons f n ns, sum_by-cons h n ns, less n, sum_falls ns f h less)

pub sum_drops : (names : List (List ℕ)) (f h : List ℕ → ℕ) → ((n : List ℕ) → f n ≤ h n) → (y : List ℕ) → Contains names y → f y + 1 ≤ h y → sum_by f names + 1 ≤ sum_by h names
sum_drops [] f h less y c d = absurd (omega (arith, c.1))
sum_drops (n ∷ ns) f h less y c d = elim (cons_cases n ns y c) as (λ _. sum_by f (n ∷ ns) + 1 ≤ sum_by h (n ∷ ns)) [
  | inl same ↦
      let here : f n + 1 ≤ h n = subst (λ x. f x + 1 ≤ h x) (sym same) d in
      omega (arith, sum_by-cons f n ns, sum_by-cons h n ns, here, sum_falls ns f h less)
  | inr later ↦ omega (arith, sum_by-cons f n ns, sum_by-cons h n ns, less n, sum_drops ns f h less y later d)
]

abbrev start_count : State → List ℕ → ℕ
start_count c n = waits (jobs_of_unit c.pending n).start

gone_here : (c : State) (y : List ℕ) → start_count (without_start_of c y) y ≡ 0
gone_here c y = ap (λ j. waits j.start) (jobs_here c.pending y (without_start (jobs_of_unit c.pending y)))

gone_less : (c : State) (y n : List ℕ) → start_count (without_start_of c y) n ≤ start_count c n
gone_less c y n = elim (same_name n y) as (λ _. start_count (without_start_of c y) n ≤ start_count c n) [
  | inl is ↦ let e : start_count (without_start_of c y) n ≡ 0 = ap (start_count (without_start_of c y)) is ∙ gone_here c y in omega arith
  | inr apart ↦ let e = ap (λ j. waits j.start) (jobs_apart c.pending y (without_start (jobs_of_unit c.pending y)) n apart) in omega arith
]

module _ (g : GraphView) where
  named_left : (y : List ℕ) (u : ℕ) (m : Taking) → Contains g.names y → left g (taken_named y u m) ≤ left g m
  named_left y u m c = by (is_waiting (jobs_of_unit m.0.pending y).start) refl
    where
      by : (b : Bool) → is_waiting (jobs_of_unit m.0.pending y).start ≡ b → left g (cond b (without_start_of m.0 y, m.1 ++ u ∷ []) m) ≤ left g m
      by true e =
          let one : start_count m.0 y ≡ 1 = ap waits (waiting_is (jobs_of_unit m.0.pending y).start e) in
          let drops = sum_drops g.names (start_count (without_start_of m.0 y)) (start_count m.0) (gone_less m.0 y) y c (omega (arith, gone_here m.0 y)) in
          omega (arith, drops, length-append m.1 (u ∷ []))
      by false e = omega arith

  taken_left : (u : ℕ) (m : Taking) → left g (taken g u m) ≤ left g m
  taken_left u m = by (slice_get g.names u) refl
    where
      by : (o : Option (List ℕ)) → slice_get g.names u ≡ o → left g (taken_by o u m) ≤ left g m
      by None e = omega arith
      by (Some y) e = named_left y u m (known_by g u y e)

  all_left : (ns : List Neighbour) (m : Taking) → left g (taken_all g ns m) ≤ left g m
  all_left [] m = omega arith
  all_left (n ∷ ns) m = let rest = all_left ns (taken_next g n m) in let here = by (needs_it n && is_later n) in omega arith
    where
      by : (b : Bool) → left g (cond b (taken g n.unit m) m) ≤ left g m
      by true = taken_left n.unit m
      by false = omega arith

  -- a turn leaves fewer
  pub fewer_left : (ns : List Neighbour) (c : State) (l l' : List ℕ) (u : ℕ) (m : Taking) → l ≡ l' ++ u ∷ [] → m ≡ taken_all g ns (c, l') → left g m < left g (c, l)
  fewer_left ns c l l' u m e is =
      let shorter : length l ≡ length l' + 1 = ap length e ∙ length-append l' (u ∷ []) in
      let more = all_left ns (c, l') in
      let same = ap (left g) is in
      omega (arith, shorter, more, same)

-- ---- no unit has more waiting jobs
gone_waits : (c : State) (y n : List ℕ) → waits_in (jobs_of_unit (without_start_of c y).pending n) ≤ waits_in (jobs_of_unit c.pending n)
gone_waits c y n = elim (same_name n y) as (λ _. waits_in (jobs_of_unit (without_start_of c y).pending n) ≤ waits_in (jobs_of_unit c.pending n)) [
  | inl is ↦
      let e : waits_in (jobs_of_unit (without_start_of c y).pending n) ≡ waits_in (without_start (jobs_of_unit c.pending n)) =
      ap waits_in (ap (jobs_of_unit (without_start_of c y).pending) is ∙ (jobs_here c.pending y (without_start (jobs_of_unit c.pending y)) ∙ ap (λ x. without_start (jobs_of_unit c.pending x)) (sym is))) in
      omega arith
  | inr apart ↦ let e = ap waits_in (jobs_apart c.pending y (without_start (jobs_of_unit c.pending y)) n apart) in omega arith
]

module _ (g : GraphView) where
  taken_waits : (u : ℕ) (m : Taking) → NoMoreWait (taken g u m).0.pending m.0.pending
  taken_waits u m = by (slice_get g.names u)
    where
      named : (y : List ℕ) (b : Bool) → NoMoreWait (cond b (without_start_of m.0 y, m.1 ++ u ∷ []) m).0.pending m.0.pending
      named y true n = gone_waits m.0 y n
      named y false n = omega arith

      by : (o : Option (List ℕ)) → NoMoreWait (taken_by o u m).0.pending m.0.pending
      by None n = omega arith
      by (Some y) n = named y (is_waiting (jobs_of_unit m.0.pending y).start) n

  pub all_waits : (ns : List Neighbour) (m : Taking) → NoMoreWait (taken_all g ns m).0.pending m.0.pending
  all_waits [] m n = omega arith
  all_waits (k ∷ ns) m n = let rest = all_waits ns (taken_next g k m) n in let here = by (needs_it k && is_later k) in omega arith
    where
      by : (b : Bool) → waits_in (jobs_of_unit (cond b (taken g k.unit m) m).0.pending n) ≤ waits_in (jobs_of_unit m.0.pending n)
      by true = taken_waits k.unit m n
      by false = omega arith

  pub waits_on : (ns : List Neighbour) (m after : Taking) (earliest : ByUnit UnitJobs) → after ≡ taken_all g ns m → NoMoreWait m.0.pending earliest → NoMoreWait after.0.pending earliest
  waits_on ns m after earliest is none unit =
      let e = ap (λ (x : Taking). waits_in (jobs_of_unit x.0.pending unit)) is in
      let now = all_waits ns m unit in
      let earlier = none unit in
      omega arith
