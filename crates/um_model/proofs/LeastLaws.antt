-- At most one thing is the least; and of those in a list one is, if any has the property.
use Rattle.std.proofs.Common.{◌≡◌, ◌≢◌, ◌⊎◌, ◌∙◌, List, [], ◌∷◌, sym, subst, inl, inr}
use Rattle.um_model.specs.Least.{IsLeast}

-- it holds or not
abbrev pub IsDecided : Type 0 → Type 0
IsDecided P = P ⊎ (¬ P)

-- in an order in which no two come each before the other, of things that are one another or not
pub one_least : {A : Type 0} (Before : A → A → Type 0) (Has : A → Type 0) → ((a b : A) → Before a b → Before b a → ⊥) → ((a b : A) → IsDecided (a ≡ b))
    → (a b : A) → IsLeast Before Has a → IsLeast Before Has b → a ≡ b
one_least Before Has one_way same a b h k = elim (same a b) as (λ _. a ≡ b) [
  | inl is ↦ is
  | inr apart ↦ absurd (one_way a b (h.first b k.has (λ e. apart (sym e))) (k.first a h.has apart))
]

-- it is one of these
abbrev pub Among : {A : Type 0} → List A → A → Type 0
Among [] a = ⊥
Among (x ∷ xs) a = (a ≡ x) ⊎ Among xs a

module _ {A : Type 0} (Before : A → A → Type 0) (Has : A → Type 0) (same : (a b : A) → IsDecided (a ≡ b)) (trans : (a b c : A) → Before a b → Before b c → Before a c) where
  -- the least of those in a list
  record IsLeastOf (xs : List A) (a : A) : Type 0 where
    has : Has a
    first : (other : A) → Among xs other → Has other → other ≢ a → Before a other

  none_with : (x : A) (xs : List A) → ¬ (Has x) → ((a : A) → Among xs a → ¬ (Has a)) → (a : A) → Among (x ∷ xs) a → ¬ (Has a)
  none_with x xs hasnt none a (inl is) has = hasnt (subst Has is has)
  none_with x xs hasnt none a (inr later) has = none a later has

  -- only the first has the property
  alone : (x : A) (xs : List A) → ((a : A) → Among xs a → ¬ (Has a)) → (other : A) → Among (x ∷ xs) other → Has other → other ≢ x → Before x other
  alone x xs none other (inl is) has apart = absurd (apart is)
  alone x xs none other (inr later) has apart = absurd (none other later has)

  -- the first comes before the least of the others, and so before them all
  before_others : (x a : A) (xs : List A) → Before x a → IsLeastOf xs a → (other : A) → Among (x ∷ xs) other → Has other → other ≢ x → Before x other
  before_others x a xs first least other (inl is) has apart = absurd (apart is)
  before_others x a xs first least other (inr later) has apart = elim (same other a) as (λ _. Before x other) [
    | inl is ↦ subst (Before x) (sym is) first
    | inr more ↦ trans x a other first (least.first other later has more)
  ]

  -- the least of the others comes before the first too
  before_first : (x a : A) (xs : List A) → (Has x → x ≢ a → Before a x) → IsLeastOf xs a → (other : A) → Among (x ∷ xs) other → Has other → other ≢ a → Before a other
  before_first x a xs first least other (inl is) has apart = subst (Before a) (sym is) (first (subst Has is has) (λ e. apart (is ∙ e)))
  before_first x a xs first least other (inr later) has apart = least.first other later has apart

  module _ (compared : (a b : A) → a ≢ b → Before a b ⊎ Before b a) (decided : (a : A) → IsDecided (Has a)) where
    abbrev Found : List A → Type 0
    Found xs = ((a : A) → Among xs a → ¬ (Has a)) ⊎ ((a : A) × IsLeastOf xs a)

    lesser : (x a : A) (xs : List A) → Has x → IsLeastOf xs a → Found (x ∷ xs)
    lesser x a xs has least = elim (same x a) as (λ _. Found (x ∷ xs)) [
      | inl is ↦ inr (a, record { has = least.has; first = before_first x a xs (λ _ apart. absurd (apart is)) least })
      | inr apart ↦ elim (compared x a apart) as (λ _. Found (x ∷ xs)) [
        | inl first ↦ inr (x, record { has = has; first = before_others x a xs first least })
        | inr last ↦ inr (a, record { has = least.has; first = before_first x a xs (λ _ _. last) least })
      ]
    ]

    with_first : (x : A) (xs : List A) → IsDecided (Has x) → Found xs → Found (x ∷ xs)
    with_first x xs (inl has) (inl none) = inr (x, record { has = has; first = alone x xs none })
    with_first x xs (inl has) (inr found) = lesser x found.0 xs has found.1
    with_first x xs (inr hasnt) (inl none) = inl (none_with x xs hasnt none)
    with_first x xs (inr hasnt) (inr found) =
        inr (found.0, record { has = found.1.has; first = before_first x found.0 xs (λ has _. absurd (hasnt has)) found.1 })

    least_of : (xs : List A) → Found xs
    least_of [] = inl (λ a none has. none)
    least_of (x ∷ xs) = with_first x xs (decided x) (least_of xs)

    -- if the list has all that have the property, none has it or one is the least
    pub a_least : (xs : List A) → ((a : A) → Has a → Among xs a) → ((a : A) → ¬ (Has a)) ⊎ ((a : A) × IsLeast Before Has a)
    a_least xs all = elim (least_of xs) as (λ _. ((a : A) → ¬ (Has a)) ⊎ ((a : A) × IsLeast Before Has a)) [
      | inl none ↦ inl (λ a has. none a (all a has) has)
      | inr found ↦ inr (found.0, record { has = found.1.has; first = λ other has apart. found.1.first other (all other has) has apart })
    ]
