-- One timer is due first if any is set; a timer that is taken away is one fewer; and names are the same or not.
use Rattle.std.proofs.Common.{ℕ, zero, suc, ◌-◌, ◌<◌, ◌≤◌, ◌≡◌, ◌≢◌, ◌⊎◌, ◌∙◌, cond, List, [], ◌∷◌, Option, Some, None, is_some, unwrap_or, ◌||◌, true, false, true≢false, Less, Equal, Greater, refl, sym, ap, inl, inr, arith}
use Rattle.std.specs.FinMap as map
use Rattle.std.specs.List.{list_any}
use Rattle.std.specs.Str.{bytes_eq}
use Rattle.std.specs.Cmp.Lexicographic.{slice_cmp, nat_list_cmp_total}
use Rattle.std.specs.Ordering.{nat_cmp, eq_by_cmp, ordering_reverse}
use Rattle.std.proofs.lemmas.Slice.Eq.{bytes_eq-Decides}
use Rattle.std.proofs.lemmas.Bool.{cases_lt}
use Rattle.std.proofs.lemmas.Map.Lookups.{exact_bytes}
use Rattle.std.proofs.lemmas.Map.Views.{tells_apart}
use Rattle.std.proofs.lemmas.Option.{none-some, same_Some}
use Rattle.um_model.specs.Least.{IsNamedBefore}
use Rattle.um_model.specs.Service.{ByUnit}
use Rattle.um_model.specs.Timers.{Timers, IsDueBefore, earlier, by_name, IsDueFirst}
use Rattle.um_model.proofs.LeastLaws.{IsDecided, Among, a_least}

-- no two names are each less than the other
pub names_one_way : (n o : List ℕ) → slice_cmp nat_cmp n o ≡ Less → slice_cmp nat_cmp o n ≡ Less → ⊥
names_one_way n o k l = let a = nat_list_cmp_total.antisymm n o in let b = ap ordering_reverse l in cc

-- no two timers are each due before the other
one_way : (timer other : ℕ × List ℕ) → IsDueBefore timer other → IsDueBefore other timer → ⊥
one_way timer other (earlier p) (earlier q) = omega arith
one_way timer other (earlier p) (by_name q l) = omega arith
one_way timer other (by_name p k) (earlier q) = omega arith
one_way timer other (by_name p k) (by_name q l) = names_one_way timer.1 other.1 k l

-- a name is another one or not
pub same_name : (n o : List ℕ) → IsDecided (n ≡ o)
same_name n o = elim (bytes_eq n o) as (λ b. bytes_eq n o ≡ b → IsDecided (n ≡ o)) [
  | true ↦ λ t. inl ((bytes_eq-Decides n o).0 t)
  | false ↦ λ f. inr (λ e. true≢false (sym ((bytes_eq-Decides n o).1 e) ∙ f))
] refl

-- one of two names that may be there is the other or not
pub same_option : {A : Type 0} → ((a b : A) → IsDecided (a ≡ b)) → (o p : Option A) → IsDecided (o ≡ p)
same_option same None None = inl refl
same_option same None (Some b) = inr (λ e. cc)
same_option same (Some a) None = inr (λ e. cc)
same_option same (Some a) (Some b) = elim (same a b) as (λ _. IsDecided (Some a ≡ Some b)) [
  | inl is ↦ inl (ap Some is)
  | inr apart ↦ inr (λ e. apart (same_Some a b e))
]

-- the timer of another unit is another timer, and the other way round
pub due_before : (timers : Timers) (d : ℕ) (n : List ℕ) → IsDueFirst timers d n → (later : ℕ) (other : List ℕ) → map.get timers other ≡ Some later → other ≢ n
    → IsDueBefore (d, n) (later, other)
due_before timers d n due later other at apart = due.first (later, other) at (λ e. apart (ap (λ timer. timer.1) e))

pub due_before_others : (timers : Timers) (d : ℕ) (n : List ℕ) → map.get timers n ≡ Some d
    → ((later : ℕ) (other : List ℕ) → map.get timers other ≡ Some later → other ≢ n → IsDueBefore (d, n) (later, other)) → IsDueFirst timers d n
due_before_others timers d n at before = record {
  has = at;
  first = λ timer there apart.
      before timer.0 timer.1 there (λ same. apart (λ i. (same_Some timer.0 d (sym there ∙ (ap (map.get timers) same ∙ at)) i, same i)));
}

pub one_due_first : (timers : Timers) (d e : ℕ) (n o : List ℕ) → IsDueFirst timers d n → IsDueFirst timers e o → (d ≡ e) × (n ≡ o)
one_due_first timers d e n o x y = elim (same_name n o) as (λ _. (d ≡ e) × (n ≡ o)) [
  | inl same ↦ (same_Some d e (sym x.has ∙ (ap (map.get timers) same ∙ y.has)), same)
  | inr apart ↦ absurd (one_way (d, n) (e, o) (due_before timers d n x e o y.has (λ s. apart (sym s))) (due_before timers e o y d n x.has apart))
]

no_earlier : (t deadline later : ℕ) (unit other : List ℕ) → t < deadline → IsDueBefore (deadline, unit) (later, other) → t < later
no_earlier t deadline later unit other low (earlier le) = omega arith
no_earlier t deadline later unit other low (by_name same le) = omega arith

-- if the first deadline is past the moment, each is
pub first_is_late : (t : ℕ) (timers : Timers) (deadline : ℕ) (unit : List ℕ) → IsDueFirst timers deadline unit → t < deadline
    → (later : ℕ) (other : List ℕ) → map.get timers other ≡ Some later → t < later
first_is_late t timers deadline unit first low later other at = elim (same_name other unit) as (λ _. t < later) [
  | inl same ↦ let e = same_Some deadline later (sym first.has ∙ (ap (map.get timers) (sym same) ∙ at)) in omega arith
  | inr apart ↦ no_earlier t deadline later unit other low (due_before timers deadline unit first later other at apart)
]

some_set : (timers : Timers) (deadline : ℕ) (unit : List ℕ) → map.get timers unit ≡ Some deadline → (n : ℕ) → map.len timers ≡ n → 0 < n
some_set timers deadline unit set zero e =
    absurd (none-some deadline (sym (map.get-empty (slice_cmp nat_cmp) unit) ∙ (ap (λ m. map.get m unit) (sym (map.empty_of_len timers e)) ∙ set)))
some_set timers deadline unit set (suc n) e = omega arith

-- a timer that was set is taken away: one fewer is left
pub fewer_timers : (timers later : Timers) (deadline : ℕ) (unit : List ℕ) → later ≡ map.remove timers unit → map.get timers unit ≡ Some deadline → map.len later < map.len timers
fewer_timers timers later deadline unit is set =
    let left = ap map.len is ∙ (map.len-remove nat_list_cmp_total timers unit ∙ ap (λ o. cond (is_some o) (map.len timers - 1) (map.len timers)) set) in
    let some = some_set timers deadline unit set (map.len timers) refl in
    omega arith

-- ---- one timer is due first if any is set

pub named_trans : (a b c : List ℕ) → IsNamedBefore a b → IsNamedBefore b c → IsNamedBefore a c
named_trans = nat_list_cmp_total.trans

-- of two names that differ one is less
pub one_named_first : (n o : List ℕ) → n ≢ o → IsNamedBefore n o ⊎ IsNamedBefore o n
one_named_first n o apart = elim (slice_cmp nat_cmp n o) as (λ r. slice_cmp nat_cmp n o ≡ r → IsNamedBefore n o ⊎ IsNamedBefore o n) [
  | Less ↦ λ e. inl e
  | Equal ↦ λ e. absurd (apart (exact_bytes n o e))
  | Greater ↦ λ e. inr (nat_list_cmp_total.antisymm o n ∙ ap ordering_reverse e)
] refl

pub same_number : (a b : ℕ) → IsDecided (a ≡ b)
same_number a b = elim (cases_lt a b) as (λ _. IsDecided (a ≡ b)) [
  | inl less ↦ inr (λ e. omega arith)
  | inr most ↦ elim (cases_lt b a) as (λ _. IsDecided (a ≡ b)) [
    | inl more ↦ inr (λ e. omega arith)
    | inr least ↦ inl (omega arith)
  ]
]

same_timer : (timer other : ℕ × List ℕ) → IsDecided (timer ≡ other)
same_timer timer other = elim (same_number timer.0 other.0) as (λ _. IsDecided (timer ≡ other)) [
  | inl at ↦ elim (same_name timer.1 other.1) as (λ _. IsDecided (timer ≡ other)) [
    | inl same ↦ inl (λ i. (at i, same i))
    | inr apart ↦ inr (λ e. apart (ap (λ x. x.1) e))
  ]
  | inr apart ↦ inr (λ e. apart (ap (λ x. x.0) e))
]

due_trans : (a b c : ℕ × List ℕ) → IsDueBefore a b → IsDueBefore b c → IsDueBefore a c
due_trans a b c (earlier p) (earlier q) = earlier (omega arith)
due_trans a b c (earlier p) (by_name q l) = earlier (omega arith)
due_trans a b c (by_name p k) (earlier q) = earlier (omega arith)
due_trans a b c (by_name p k) (by_name q l) = by_name (p ∙ q) (named_trans a.1 b.1 c.1 k l)

one_due_before : (a b : ℕ × List ℕ) → a ≢ b → IsDueBefore a b ⊎ IsDueBefore b a
one_due_before a b apart = elim (same_number a.0 b.0) as (λ _. IsDueBefore a b ⊎ IsDueBefore b a) [
  | inl at ↦ elim (same_name a.1 b.1) as (λ _. IsDueBefore a b ⊎ IsDueBefore b a) [
    | inl same ↦ absurd (apart (λ i. (at i, same i)))
    | inr other ↦ elim (one_named_first a.1 b.1 other) as (λ _. IsDueBefore a b ⊎ IsDueBefore b a) [
      | inl less ↦ inl (by_name at less)
      | inr more ↦ inr (by_name (sym at) more)
    ]
  ]
  | inr other ↦ elim (cases_lt a.0 b.0) as (λ _. IsDueBefore a b ⊎ IsDueBefore b a) [
    | inl less ↦ inl (earlier less)
    | inr most ↦ inr (earlier (by_other a.0 b.0 other most))
  ]
]
  where
    by_other : (x y : ℕ) → x ≢ y → y ≤ x → y < x
    by_other x y apart most = omega arith

-- a name that a map has is among its names
among_names : (name : List ℕ) (names : List (List ℕ)) → list_any (eq_by_cmp (slice_cmp nat_cmp) name) names ≡ true → Among names name
among_names name [] is = absurd (true≢false (sym is))
among_names name (first ∷ others) is =
    elim (eq_by_cmp (slice_cmp nat_cmp) name first) as (λ b. eq_by_cmp (slice_cmp nat_cmp) name first ≡ b → (b || list_any (eq_by_cmp (slice_cmp nat_cmp) name) others) ≡ true → Among (first ∷ others) name) [
      | true ↦ λ e _. inl (tells_apart exact_bytes name first e)
      | false ↦ λ _ later. inr (among_names name others later)
    ] refl is

pub among_keys : {A : Type 0} (m : ByUnit A) (name : List ℕ) → is_some (map.get m name) ≡ true → Among (map.keys m) name
among_keys m name is = among_names name (map.keys m) (sym (map.contains_key-keys m name) ∙ is)

-- the timers of these names
abbrev timers_of : Timers → List (List ℕ) → List (ℕ × List ℕ)
timers_of timers [] = []
timers_of timers (unit ∷ units) = (unwrap_or (map.get timers unit) 0, unit) ∷ timers_of timers units

among_timers : (timers : Timers) (units : List (List ℕ)) (timer : ℕ × List ℕ) → map.get timers timer.1 ≡ Some timer.0 → Among units timer.1 → Among (timers_of timers units) timer
among_timers timers [] timer at none = none
among_timers timers (unit ∷ units) timer at (inl is) =
    inl (λ i. (ap (λ o. unwrap_or o 0) (sym at ∙ ap (map.get timers) is) i, is i))
among_timers timers (unit ∷ units) timer at (inr later) = inr (among_timers timers units timer at later)

is_set : (timers : Timers) (timer : ℕ × List ℕ) → IsDecided (map.get timers timer.1 ≡ Some timer.0)
is_set timers timer = same_option same_number (map.get timers timer.1) (Some timer.0)

-- no timer is set, or one is due first
pub first_timer : (timers : Timers) → ((timer : ℕ × List ℕ) → map.get timers timer.1 ≢ Some timer.0) ⊎ ((timer : ℕ × List ℕ) × IsDueFirst timers timer.0 timer.1)
first_timer timers =
    a_least IsDueBefore (λ timer. map.get timers timer.1 ≡ Some timer.0) same_timer due_trans one_due_before (is_set timers) (timers_of timers (map.keys timers))
    (λ timer at. among_timers timers (map.keys timers) timer at (among_keys timers timer.1 (ap is_some at)))
