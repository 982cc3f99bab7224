-- Names in their order and the numbers of units: each name has one number; and the item for a name in a list in that order.
use Rattle.std.proofs.Common.{◌≡◌, ◌≢◌, ◌⊎◌, ◌∙◌, ◌<◌, ◌≤◌, ℕ, zero, suc, true, false, cond, List, [], ◌∷◌, length, AllPairs, Some, refl, sym, ap, subst, inl, inr, arith, slice_get, get_or}
use Rattle.std.proofs.lemmas.Bool.{cases_lt}
use Rattle.std.proofs.lemmas.Option.{none-some, get_or_from_slice_get, slice_get-get_or, slice_get_cases}
use Rattle.std.proofs.lemmas.Slice.Eq.{bytes_eq-Decides}
use Rattle.std.specs.Str.{bytes_eq}
use Rattle.um_model.specs.Least.{IsNamedBefore}
use Rattle.um_model.proofs.TimersLaws.{names_one_way, same_name}
use Rattle.um_graph.specs.Named.{item_for, name_at}

-- the name under a number
pub name_got : (names : List (List ℕ)) (i : ℕ) → i < length names → slice_get names i ≡ Some (name_at names i)
name_got names i h = slice_get-get_or names i [] h

pub name_is : (names : List (List ℕ)) (i : ℕ) (x : List ℕ) → slice_get names i ≡ Some x → name_at names i ≡ x
name_is names i x e = get_or_from_slice_get names i x [] e

pub got_within : {A : Type 0} (xs : List A) (i : ℕ) (x : A) → slice_get xs i ≡ Some x → i < length xs
got_within xs i x e = elim (slice_get_cases xs i).1 as (λ _. i < length xs) [ inl c ↦ c.1 | inr c ↦ absurd (none-some x (sym c.1 ∙ e)) ]

-- a name is that of a unit, or of none
abbrev pub IsAmong : List (List ℕ) → List ℕ → Type 0
IsAmong names x = (i : ℕ) × (i < length names) × (name_at names i ≡ x)

abbrev pub IsApart : List (List ℕ) → List ℕ → Type 0
IsApart names x = (i : ℕ) → i < length names → name_at names i ≢ x

pub among_or_apart : (names : List (List ℕ)) (x : List ℕ) → IsAmong names x ⊎ IsApart names x
among_or_apart [] x = inr (λ i h. absurd (omega arith))
among_or_apart (n ∷ ns) x = elim (same_name n x) as (λ _. IsAmong (n ∷ ns) x ⊎ IsApart (n ∷ ns) x) [
  | inl is ↦ inl (0, omega arith, is)
  | inr other ↦ elim (among_or_apart ns x) as (λ _. IsAmong (n ∷ ns) x ⊎ IsApart (n ∷ ns) x) [
    | inl later ↦ inl (suc later.0, omega (arith, later.1), later.2)
    | inr none ↦ inr (apart n ns x other none)
  ]
]
  where
    apart : (n : List ℕ) (ns : List (List ℕ)) (x : List ℕ) → n ≢ x → IsApart ns x → IsApart (n ∷ ns) x
    apart n ns x other none zero h = other
    apart n ns x other none (suc i) h = none i (omega arith)

-- no name stands twice
abbrev pub AreOnce : List (List ℕ) → Type 0
AreOnce names = (i j : ℕ) → i < length names → j < length names → name_at names i ≡ name_at names j → i ≡ j

module _ (names : List (List ℕ)) (sorted : AllPairs IsNamedBefore names) where
  pub named_before : (i j : ℕ) → i < j → j < length names → IsNamedBefore (name_at names i) (name_at names j)
  named_before i j h k = sorted i j [] h k

  not_below : (i j : ℕ) → i < j → j < length names → name_at names i ≢ name_at names j
  not_below i j h k e =
      let b = subst (λ x. IsNamedBefore x (name_at names j)) e (named_before i j h k) in
      names_one_way (name_at names j) (name_at names j) b b

  pub names_once : AreOnce names
  names_once i j h k e = elim (cases_lt i j) as (λ _. i ≡ j) [
    | inl lower ↦ absurd (not_below i j lower k e)
    | inr past ↦ elim (cases_lt j i) as (λ _. i ≡ j) [ inl lower ↦ absurd (not_below j i lower h (sym e)) | inr equal ↦ omega arith ]
  ]

  -- a name of a greater number isn't before
  pub not_before : (i j : ℕ) → i ≤ j → j < length names → ¬ IsNamedBefore (name_at names j) (name_at names i)
  not_before i j h k b = elim (cases_lt i j) as (λ _. ⊥) [
    | inl lower ↦ names_one_way (name_at names i) (name_at names j) (named_before i j lower k) b
    | inr past ↦
        let e : i ≡ j = omega arith in
        let c = subst (λ m. IsNamedBefore (name_at names j) (name_at names m)) e b in
        names_one_way (name_at names j) (name_at names j) c c
  ]

pub once_later : (n : List ℕ) (ns : List (List ℕ)) → AreOnce (n ∷ ns) → AreOnce ns
once_later n ns once i j h k e = let s : suc i ≡ suc j = once (suc i) (suc j) (omega arith) (omega arith) e in omega arith

pub first_apart : (n : List ℕ) (ns : List (List ℕ)) → AreOnce (n ∷ ns) → (i : ℕ) → i < length ns → n ≢ name_at ns i
first_apart n ns once i h e = let s : 0 ≡ suc i = once 0 (suc i) (omega arith) (omega arith) e in absurd (omega arith)

same_true : (x : List ℕ) → bytes_eq x x ≡ true
same_true x = (bytes_eq-Decides x x).1 refl

other_false : (x y : List ℕ) → x ≢ y → bytes_eq x y ≡ false
other_false x y h = elim (bytes_eq x y) as (λ b. bytes_eq x y ≡ b → bytes_eq x y ≡ false) [
  | true ↦ λ t. absurd (h ((bytes_eq-Decides x y).0 t))
  | false ↦ λ f. f
] refl

-- the item for a unit's name is the one for its number
pub item_at : {A : Type 0} (none : A) (names : List (List ℕ)) (xs : List A) → AreOnce names → (i : ℕ) → i < length names → item_for none names xs (name_at names i) ≡ get_or xs i none
item_at none [] xs once i h = absurd (omega arith)
item_at none (n ∷ ns) [] once i h = refl
item_at none (n ∷ ns) (x ∷ xs) once zero h = ap (λ b. cond b x (item_for none ns xs n)) (same_true n)
item_at none (n ∷ ns) (x ∷ xs) once (suc i) h =
    ap (λ b. cond b x (item_for none ns xs (name_at ns i))) (other_false n (name_at ns i) (first_apart n ns once i (omega arith))) ∙ item_at none ns xs (once_later n ns once) i (omega arith)
