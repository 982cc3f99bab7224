-- A scan of the units finds the least deadline past a moment.
use Rattle.std.specs.Option.{MatchOption}
use Rattle.std.proofs.Common.{◌≡◌, ◌<◌, ◌≤◌, ◌∙◌, ◌+◌, ◌||◌, ℕ, List, Bool, true, false, nat_le, cond, Option, Some, None, length, refl, sym, ap, subst, inl, inr, arith, true≢false}
use Rattle.std.proofs.lemmas.Bool.{cases_lt}
use Rattle.std.proofs.lemmas.Bool.Decides.{nat_tests}
use Rattle.std.proofs.lemmas.List.{get_or_past}
use Rattle.std.proofs.lemmas.Option.{same_Some, none-some}
use Rattle.um_model.specs.Service.{state_of_unit, dead_unit}
use Rattle.um_model.specs.Standing.{Table}
use Rattle.um_model.specs.declared.service.UnitState.{UnitState}
use Rattle.um_name.specs.Names.{AreAscending, name_at}
use Rattle.um_state.specs.Finding.{row_at}
use Rattle.um_state.specs.Tables.{units_by}
use Rattle.um_state.proofs.FindingLaws.{of_each, told_row}
use Rattle.um_serve.specs.Scan.{sooner, sooner_past}
use Rattle.um_serve.specs.Sleep.{NoneAfter, IsNextAfter}

-- a deadline isn't past the moment, or not below the one found so far
abbrev pub is_kept : ℕ → Option ℕ → Option ℕ → Bool
is_kept moment next None = true
is_kept moment None (Some d) = nat_le d moment
is_kept moment (Some n) (Some d) = nat_le d moment || nat_le n d

-- none of the first rows has a deadline past the moment that is sooner
abbrev pub AreKept : List UnitState → ℕ → Option ℕ → ℕ → Type 0
AreKept rows moment next count = (i : ℕ) → i < count → is_kept moment next (row_at rows i).deadline ≡ true

-- the least found so far stands in a row, past the moment
abbrev pub IsFound : List UnitState → ℕ → Option ℕ → Type 0
IsFound rows moment next = (d : ℕ) → next ≡ Some d → (i : ℕ) × (i < length rows) × ((row_at rows i).deadline ≡ Some d) × (moment < d)

or_true : (a : Bool) → (a || true) ≡ true
or_true true = refl
or_true false = refl

le_true : (a b : ℕ) → a ≤ b → nat_le a b ≡ true
le_true a b le = grind (arith, nat_tests)

le_false : (a b : ℕ) → b < a → nat_le a b ≡ false
le_false a b lt = grind (arith, nat_tests)

le_of : (a b : ℕ) → nat_le a b ≡ true → a ≤ b
le_of a b e = grind (arith, nat_tests)

passes : (moment d : ℕ) (next : Option ℕ) → d ≤ moment → sooner_past moment next (Some d) ≡ next
passes moment d next le = ap (λ b. cond b next (sooner next d)) (le_true d moment le)

counts : (moment d : ℕ) (next : Option ℕ) → moment < d → sooner_past moment next (Some d) ≡ sooner next d
counts moment d next lt = ap (λ b. cond b next (sooner next d)) (le_false d moment lt)

stays : (n d : ℕ) → n ≤ d → sooner (Some n) d ≡ Some n
stays n d le = ap (λ b. cond b (Some n) (Some d)) (le_true n d le)

gives_way : (n d : ℕ) → d < n → sooner (Some n) d ≡ Some d
gives_way n d lt = ap (λ b. cond b (Some n) (Some d)) (le_false n d lt)

-- a deadline that was kept is kept by a sooner one
lower : (moment n d : ℕ) (o : Option ℕ) → d ≤ n → is_kept moment (Some n) o ≡ true → is_kept moment (Some d) o ≡ true
lower moment n d None le kept = refl
lower moment n d (Some x) le kept = by (nat_le x moment) (nat_le n x) refl kept
  where
    by : (a b : Bool) → nat_le n x ≡ b → (a || b) ≡ true → (a || nat_le d x) ≡ true
    by true b e k = refl
    by false true e k = (let low = le_of n x e in le_true d x (omega (arith, low, le)))
    by false false e k = absurd (true≢false (sym k))

from_none : (moment d : ℕ) (o : Option ℕ) → is_kept moment None o ≡ true → is_kept moment (Some d) o ≡ true
from_none moment d None kept = refl
from_none moment d (Some x) kept = ap (λ b. b || nat_le d x) kept

-- one more row is kept, and so are those before it
next_one : (moment : ℕ) (next : Option ℕ) (o : Option ℕ)
    → ((p : Option ℕ) → is_kept moment next p ≡ true → is_kept moment (sooner_past moment next o) p ≡ true) × (is_kept moment (sooner_past moment next o) o ≡ true)
next_one moment next None = ((λ p kept. kept), refl)
next_one moment None (Some d) = elim (cases_lt moment d) [
  | inl lt ↦
      subst (λ (later : Option ℕ). ((p : Option ℕ) → is_kept moment None p ≡ true → is_kept moment later p ≡ true) × (is_kept moment later (Some d) ≡ true))
      (sym (counts moment d None lt)) (from_none moment d, ap (λ b. nat_le d moment || b) (le_true d d (omega arith)) ∙ or_true (nat_le d moment))
  | inr le ↦
      subst (λ (later : Option ℕ). ((p : Option ℕ) → is_kept moment None p ≡ true → is_kept moment later p ≡ true) × (is_kept moment later (Some d) ≡ true))
      (sym (passes moment d None le)) ((λ p kept. kept), le_true d moment le)
]
next_one moment (Some n) (Some d) = elim (cases_lt moment d) [
  | inl lt ↦
      elim (cases_lt d n) [
        | inl less ↦
            subst (λ (later : Option ℕ). ((p : Option ℕ) → is_kept moment (Some n) p ≡ true → is_kept moment later p ≡ true) × (is_kept moment later (Some d) ≡ true))
            (sym (counts moment d (Some n) lt ∙ gives_way n d less))
            ((λ p kept. lower moment n d p (omega (arith, less)) kept), ap (λ b. nat_le d moment || b) (le_true d d (omega arith)) ∙ or_true (nat_le d moment))
        | inr more ↦
            subst (λ (later : Option ℕ). ((p : Option ℕ) → is_kept moment (Some n) p ≡ true → is_kept moment later p ≡ true) × (is_kept moment later (Some d) ≡ true))
            (sym (counts moment d (Some n) lt ∙ stays n d more)) ((λ p kept. kept), ap (λ b. nat_le d moment || b) (le_true n d more) ∙ or_true (nat_le d moment))
      ]
  | inr le ↦
      subst (λ (later : Option ℕ). ((p : Option ℕ) → is_kept moment (Some n) p ≡ true → is_kept moment later p ≡ true) × (is_kept moment later (Some d) ≡ true))
      (sym (passes moment d (Some n) le)) ((λ p kept. kept), ap (λ b. b || nat_le n d) (le_true d moment le))
]

pub kept_more : (rows : List UnitState) (moment : ℕ) (next : Option ℕ) (i : ℕ) → AreKept rows moment next i
    → AreKept rows moment (sooner_past moment next (row_at rows i).deadline) (i + 1)
kept_more rows moment next i kept j lt =
    let later = sooner_past moment next (row_at rows i).deadline in
    let one = next_one moment next (row_at rows i).deadline in
    elim (cases_lt j i) as (λ _. is_kept moment later (row_at rows j).deadline ≡ true) [
      | inl less ↦ one.0 (row_at rows j).deadline (kept j less)
      | inr le ↦ let same : i ≡ j = omega (arith, lt, le) in subst (λ k. is_kept moment later (row_at rows k).deadline ≡ true) same one.1
    ]

found_at : (rows : List UnitState) (moment : ℕ) (next : Option ℕ) (i : ℕ) → i < length rows → (o : Option ℕ) → (row_at rows i).deadline ≡ o → IsFound rows moment next
    → IsFound rows moment (sooner_past moment next o)
found_at rows moment next i within None at found = found
found_at rows moment None i within (Some d) at found = elim (cases_lt moment d) [
  | inl lt ↦ λ e is. (let same = same_Some d e (sym (counts moment d None lt) ∙ is) in (i, within, at ∙ ap Some same, subst (λ n. moment < n) same lt))
  | inr le ↦ λ e is. found e (sym (passes moment d None le) ∙ is)
]
found_at rows moment (Some n) i within (Some d) at found = elim (cases_lt moment d) [
  | inl lt ↦
      elim (cases_lt d n) [
        | inl less ↦ λ e is. (let same = same_Some d e (sym (counts moment d (Some n) lt ∙ gives_way n d less) ∙ is) in (i, within, at ∙ ap Some same, subst (λ n. moment < n) same lt))
        | inr more ↦ λ e is. found e (sym (counts moment d (Some n) lt ∙ stays n d more) ∙ is)
      ]
  | inr le ↦ λ e is. found e (sym (passes moment d (Some n) le) ∙ is)
]

pub found_more : (rows : List UnitState) (moment : ℕ) (next : Option ℕ) (i : ℕ) → i < length rows → IsFound rows moment next
    → IsFound rows moment (sooner_past moment next (row_at rows i).deadline)
found_more rows moment next i within found = found_at rows moment next i within (row_at rows i).deadline refl found

-- ---- all units

either_le : (a b : Bool) → (a || b) ≡ true → a ≡ false → b ≡ true
either_le true b e f = absurd (true≢false f)
either_le false b e f = e

module _ (t : Table UnitState) (rows : List UnitState) (held : units_by t.names rows ≡ t.held) (len : length rows ≡ length t.names) (sorted : AreAscending t.names)
    (moment : ℕ) (next : Option ℕ) (kept : AreKept rows moment next (length rows)) where
  seen : record { names = t.names; held = units_by t.names rows } ≡ t
  seen = ap (λ h. record { names = t.names; held = h }) held

  abbrev IsKeptHere : UnitState → Type 0
  IsKeptHere u = (d : ℕ) → u.deadline ≡ Some d → is_kept moment next (Some d) ≡ true

  of_dead : IsKeptHere dead_unit
  of_dead d is = absurd (none-some d is)

  of_row : (i : ℕ) → IsKeptHere (row_at rows i)
  of_row i = elim (cases_lt i (length rows)) as (λ _. IsKeptHere (row_at rows i)) [
    | inl lt ↦ λ d is. ap (is_kept moment next) (sym is) ∙ kept i lt
    | inr le ↦ subst IsKeptHere (sym (get_or_past rows i dead_unit le)) of_dead
  ]

  kept_at : (unit : List ℕ) → IsKeptHere (state_of_unit t.held unit)
  kept_at = of_each t t.names rows seen sorted IsKeptHere of_dead of_row

  of_found : (n : ℕ) → next ≡ Some n → IsFound rows moment next → IsNextAfter t.held moment n
  of_found n is found =
      let it = found n is in
      record {
        unit = name_at t.names it.0;
        waits = ap (λ (u : UnitState). u.deadline) (sym (told_row t t.names rows seen sorted it.0 (subst (λ l. it.0 < l) len it.1))) ∙ it.2;
        past = it.3;
        least = λ other later waits lt.
            le_of n later (either_le (nat_le later moment) (nat_le n later) (ap (λ o. is_kept moment o (Some later)) (sym is) ∙ kept_at other later waits) (le_false later moment lt));
      }

-- the deadline that a scan of all rows found is the next one
pub next_of : (t : Table UnitState) (rows : List UnitState) → units_by t.names rows ≡ t.held → length rows ≡ length t.names → AreAscending t.names
    → (moment : ℕ) (next : Option ℕ) → AreKept rows moment next (length rows) → IsFound rows moment next → MatchOption next (NoneAfter t.held moment) (IsNextAfter t.held moment)
next_of t rows held len sorted moment None kept found = λ unit d is. le_of d moment (kept_at t rows held len sorted moment None kept unit d is)
next_of t rows held len sorted moment (Some n) kept found = of_found t rows held len sorted moment (Some n) kept n refl found
