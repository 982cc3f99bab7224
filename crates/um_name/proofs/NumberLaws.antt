-- Names in ascending order: each has one number, and a search by name finds it.
use Rattle.std.proofs.Common.{◌≡◌, ◌≢◌, ◌⊎◌, ◌∙◌, ◌<◌, ◌≤◌, ◌||◌, ℕ, zero, suc, Bool, true, false, true≢false, cond, List, [], ◌∷◌, length, get_or, AllPairs, Option, Some, None, MatchOption, Less, Equal, Greater, Ordering, is_some, is_eq, refl, sym, ap, subst, inl, inr, arith}
use Rattle.std.specs.Bool.{Decides}
use Rattle.std.specs.Cmp.Lexicographic.{slice_cmp, nat_list_cmp_total}
use Rattle.std.specs.Ordering.{nat_cmp, is_lt, ordering_reverse}
use Rattle.std.specs.List.{position, IsDistinct, list_any}
use Rattle.std.specs.List.Sorted.{IsSorted}
use Rattle.std.specs.Str.{bytes_eq}
use Rattle.std.proofs.lemmas.Bool.{cases_lt}
use Rattle.std.proofs.lemmas.Slice.Eq.{bytes_eq-Decides}
use Rattle.std.proofs.lemmas.List.Quantifiers.{position-Some}
use Rattle.std.proofs.lemmas.List.Sorted.{ranks_by, sorted_far}
use Rattle.std.proofs.lemmas.Map.Made.{AllPairs-from_IsDistinct}
use Rattle.std.proofs.lemmas.Map.Lookups.{exact_bytes}
use Rattle.std.proofs.lemmas.Map.Views.{tells_apart}
use Rattle.um_name.specs.Names.{AreAscending, IsApart, HasPlace, name_at}
use Rattle.um_model.specs.Least.{IsNamedBefore}

pub not_before_itself : (a b : List ℕ) → IsNamedBefore a b → a ≡ b → ⊥
not_before_itself a b l e =
    let same : slice_cmp nat_cmp a a ≡ Less = subst (λ y. slice_cmp nat_cmp a y ≡ Less) (sym e) l in
    let turned : Less ≡ Greater = sym same ∙ (nat_list_cmp_total.antisymm a a ∙ ap ordering_reverse same) in
    cc

-- a name is another one or not
pub same_name : (n o : List ℕ) → (n ≡ o) ⊎ (n ≢ o)
same_name n o = elim (bytes_eq n o) as (λ b. bytes_eq n o ≡ b → (n ≡ o) ⊎ (n ≢ o)) [
  | true ↦ λ t. inl ((bytes_eq-Decides n o).0 t)
  | false ↦ λ f. inr (λ e. true≢false (sym ((bytes_eq-Decides n o).1 e) ∙ f))
] refl

-- a name is one of them or none
pub among_or_apart : (names : List (List ℕ)) (x : List ℕ) → ((i : ℕ) × (i < length names) × (name_at names i ≡ x)) ⊎ IsApart names x
among_or_apart [] x = inr (λ i h. absurd (omega arith))
among_or_apart (n ∷ ns) x = elim (same_name n x) as (λ _. ((i : ℕ) × (i < length (n ∷ ns)) × (name_at (n ∷ ns) i ≡ x)) ⊎ IsApart (n ∷ ns) x) [
  | inl is ↦ inl (0, omega arith, is)
  | inr other ↦ elim (among_or_apart ns x) as (λ _. ((i : ℕ) × (i < length (n ∷ ns)) × (name_at (n ∷ ns) i ≡ x)) ⊎ IsApart (n ∷ ns) x) [
    | inl later ↦ inl (suc later.0, omega (arith, later.1), later.2)
    | inr none ↦ inr (apart n ns x other none)
  ]
]
  where
    apart : (n : List ℕ) (ns : List (List ℕ)) (x : List ℕ) → n ≢ x → IsApart ns x → IsApart (n ∷ ns) x
    apart n ns x other none zero h = other
    apart n ns x other none (suc i) h = none i (omega arith)

-- no name occurs twice
abbrev pub AreOnce : List (List ℕ) → Type 0
AreOnce names = (i j : ℕ) → i < length names → j < length names → name_at names i ≡ name_at names j → i ≡ j

module _ (names : List (List ℕ)) (sorted : AreAscending names) where
  not_below : (i j : ℕ) → i < j → j < length names → name_at names i ≢ name_at names j
  not_below i j h k e = not_before_itself (name_at names i) (name_at names j) (sorted i j [] h k) e

  pub names_once : AreOnce names
  names_once i j h k e = elim (cases_lt i j) as (λ _. i ≡ j) [
    | inl lower ↦ absurd (not_below i j lower k e)
    | inr past ↦ elim (cases_lt j i) as (λ _. i ≡ j) [ inl lower ↦ absurd (not_below j i lower h (sym e)) | inr equal ↦ omega arith ]
  ]

or_true : (b : Bool) → (b || true) ≡ true
or_true true = refl
or_true false = refl

found_at : (names : List (List ℕ)) (x : List ℕ) (i : ℕ) → i < length names → name_at names i ≡ x → list_any (bytes_eq x) names ≡ true
found_at [] x i h e = absurd (omega arith)
found_at (n ∷ ns) x zero h e = ap (λ b. b || list_any (bytes_eq x) ns) ((bytes_eq-Decides x n).1 (sym e))
found_at (n ∷ ns) x (suc i) h e = ap (λ b. bytes_eq x n || b) (found_at ns x i (omega arith) e) ∙ or_true (bytes_eq x n)

-- the result of a search
pub numbered : (names : List (List ℕ)) (x : List ℕ) (o : Option ℕ) → o ≡ position (bytes_eq x) names → is_some o ≡ list_any (bytes_eq x) names
    → MatchOption o (IsApart names x) (HasPlace names x)
numbered names x None e f = λ i h same. true≢false (sym (found_at names x i h same) ∙ sym f)
numbered names x (Some i) e f =
    let f = position-Some (bytes_eq x) names i [] (sym e) in
    (f.0, sym ((bytes_eq-Decides x (name_at names i)).0 f.1))

before_by : (a b : List ℕ) (o : Ordering) → slice_cmp nat_cmp a b ≡ o → a ≢ b → is_lt (slice_cmp nat_cmp b a) ≡ false → IsNamedBefore a b
before_by a b Less e apart f = e
before_by a b Equal e apart f = absurd (apart (tells_apart exact_bytes a b (ap is_eq e)))
before_by a b Greater e apart f =
    let turned : slice_cmp nat_cmp b a ≡ Less = nat_list_cmp_total.antisymm b a ∙ ap ordering_reverse e in
    absurd (true≢false (sym (ap is_lt turned) ∙ f))

-- sorted and distinct names ascend
pub ascending : (names : List (List ℕ)) → IsSorted (slice_cmp nat_cmp) names → IsDistinct bytes_eq names → AreAscending names
ascending names sorted distinct i j d h k =
    before_by (get_or names i d) (get_or names j d) _ refl
    (AllPairs-from_IsDistinct bytes_eq-Decides names distinct i j d h k)
    (sorted_far (λ x y. is_lt (slice_cmp nat_cmp x y)) (ranks_by nat_list_cmp_total (λ (x : List ℕ). x)) names sorted i j d (omega arith) k)

pub joined : (a b : Bool) → cond a true b ≡ (b || (a || false))
joined true true = refl
joined true false = refl
joined false true = refl
joined false false = refl
