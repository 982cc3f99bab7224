-- Membership in a list; and whether one of a list has a property is decided if it is decided for each.
use Rattle.std.proofs.Common.{zero, suc, ◌≡◌, ◌⊎◌, Bool, true, false, Decides, true≢false, List, [], ◌∷◌, ◌++◌, map, flat_map, filter_map, Contains, Option, Some, None, refl, sym, ◌∙◌, ap, subst, inl, inr, arith}
use Rattle.std.specs.List.{cons_option}
use Rattle.um_model.proofs.LeastLaws.{IsDecided, Among}

-- ---- decided facts

pub both_decided : {P Q : Type 0} → IsDecided P → IsDecided Q → IsDecided (P × Q)
both_decided (inl is) (inl too) = inl (is, too)
both_decided (inl is) (inr isnt) = inr (λ both. isnt both.1)
both_decided (inr isnt) other = inr (λ both. isnt both.0)

pub either_decided : {P Q : Type 0} → IsDecided P → IsDecided Q → IsDecided (P ⊎ Q)
either_decided (inl is) other = inl (inl is)
either_decided (inr isnt) (inl is) = inl (inr is)
either_decided {P} {Q} (inr isnt) (inr too) = inr neither
  where
    neither : P ⊎ Q → ⊥
    neither (inl is) = isnt is
    neither (inr is) = too is

pub not_decided : {P : Type 0} → IsDecided P → IsDecided (¬ P)
not_decided (inl is) = inr (λ isnt. isnt is)
not_decided (inr isnt) = inl isnt

-- a test holds or not
pub passes_or_not : (test value : Bool) → IsDecided (test ≡ value)
passes_or_not true true = inl refl
passes_or_not true false = inr true≢false
passes_or_not false true = inr (λ e. true≢false (sym e))
passes_or_not false false = inl refl

-- the same of another fact that holds exactly if this one does
pub decided_as : {P Q : Type 0} → (P → Q) → (Q → P) → IsDecided P → IsDecided Q
decided_as there back (inl is) = inl (there is)
decided_as there back (inr isnt) = inr (λ q. isnt (back q))

pub test_of : {P : Type 0} → IsDecided P → (test : Bool) × Decides test P
test_of (inl is) = (true, (λ _. is, λ _. refl))
test_of (inr isnt) = (false, (λ e. absurd (true≢false (sym e)), λ is. absurd (isnt is)))

-- ---- lists

module _ {A : Type 0} where
  -- one of the list has the property
  abbrev pub AnyOf : (A → Type 0) → List A → Type 0
  AnyOf Has xs = (a : A) × Among xs a × Has a

  pub any_decided : (Has : A → Type 0) → ((a : A) → IsDecided (Has a)) → (xs : List A) → IsDecided (AnyOf Has xs)
  any_decided Has decided [] = inr (λ any. any.1)
  any_decided Has decided (x ∷ xs) = with_first (decided x) (any_decided Has decided xs)
    where
      none : ¬ (Has x) → ¬ (AnyOf Has xs) → (a : A) → Among (x ∷ xs) a → ¬ (Has a)
      none isnt neither a (inl is) has = isnt (subst Has is has)
      none isnt neither a (inr later) has = neither (a, later, has)

      with_first : IsDecided (Has x) → IsDecided (AnyOf Has xs) → IsDecided (AnyOf Has (x ∷ xs))
      with_first (inl has) others = inl (x, inl refl, has)
      with_first (inr isnt) (inl any) = inl (any.0, inr any.1, any.2)
      with_first (inr isnt) (inr neither) = inr (λ any. none isnt neither any.0 any.1 any.2)

  pub among_or_not : ((a b : A) → IsDecided (a ≡ b)) → (xs : List A) (a : A) → IsDecided (Among xs a)
  among_or_not same [] a = inr (λ none. none)
  among_or_not same (x ∷ xs) a = either_decided (same a x) (among_or_not same xs a)

  pub among_left : (xs ys : List A) (a : A) → Among xs a → Among (xs ++ ys) a
  among_left [] ys a none = absurd none
  among_left (x ∷ xs) ys a (inl is) = inl is
  among_left (x ∷ xs) ys a (inr later) = inr (among_left xs ys a later)

  pub among_right : (xs ys : List A) (a : A) → Among ys a → Among (xs ++ ys) a
  among_right [] ys a is = is
  among_right (x ∷ xs) ys a is = inr (among_right xs ys a is)

  pub among_either : (xs ys : List A) (a : A) → Among (xs ++ ys) a → Among xs a ⊎ Among ys a
  among_either [] ys a is = inr is
  among_either (x ∷ xs) ys a (inl is) = inl (inl is)
  among_either (x ∷ xs) ys a (inr later) = elim (among_either xs ys a later) as (λ _. Among (x ∷ xs) a ⊎ Among ys a) [
    | inl early ↦ inl (inr early)
    | inr late ↦ inr late
  ]

  -- the list has just the values with the property
  pub record IsListOf (Has : A → Type 0) (xs : List A) : Type 0 where
    pub has : (a : A) → Among xs a → Has a
    pub all : (a : A) → Has a → Among xs a

  -- a list of those in a list that have it
  those_of : (Has : A → Type 0) → ((a : A) → IsDecided (Has a)) → (xs : List A) → (ys : List A) × IsListOf (λ a. Among xs a × Has a) ys
  those_of Has decided [] = ([], record { has = λ a none. absurd none; all = λ a has. has.0 })
  those_of Has decided (x ∷ xs) = with_first (decided x) (those_of Has decided xs)
    where
      among_first : (ys : List A) → Has x → IsListOf (λ a. Among xs a × Has a) ys → (a : A) → Among (x ∷ ys) a → Among (x ∷ xs) a × Has a
      among_first ys has list a (inl is) = (inl is, subst Has (sym is) has)
      among_first ys has list a (inr later) = (inr (list.has a later).0, (list.has a later).1)

      first_among : (ys : List A) → IsListOf (λ a. Among xs a × Has a) ys → (a : A) → Among (x ∷ xs) a → Has a → Among (x ∷ ys) a
      first_among ys list a (inl is) has = inl is
      first_among ys list a (inr later) has = inr (list.all a (later, has))

      without : (ys : List A) → ¬ (Has x) → IsListOf (λ a. Among xs a × Has a) ys → (a : A) → Among (x ∷ xs) a → Has a → Among ys a
      without ys isnt list a (inl is) has = absurd (isnt (subst Has is has))
      without ys isnt list a (inr later) has = list.all a (later, has)

      with_first : IsDecided (Has x) → (ys : List A) × IsListOf (λ a. Among xs a × Has a) ys → (ys : List A) × IsListOf (λ a. Among (x ∷ xs) a × Has a) ys
      with_first (inl has) rest = (x ∷ rest.0, record { has = among_first rest.0 has rest.1; all = λ a both. first_among rest.0 rest.1 a both.0 both.1 })
      with_first (inr isnt) rest =
          (rest.0, record { has = λ a is. (inr (rest.1.has a is).0, (rest.1.has a is).1); all = λ a both. without rest.0 isnt rest.1 a both.0 both.1 })

  -- if a list has all that have the property, some list has just those
  pub list_of : (Has : A → Type 0) → ((a : A) → IsDecided (Has a)) → (cover : List A) → ((a : A) → Has a → Among cover a) → (xs : List A) × IsListOf Has xs
  list_of Has decided cover covers =
      let those = those_of Has decided cover in
      (those.0, record { has = λ a is. (those.1.has a is).1; all = λ a has. those.1.all a (covers a has, has) })

-- ---- lists made of others

module _ {A : Type 0} where
  pub among_contained : (xs : List A) (a : A) → Contains xs a → Among xs a
  among_contained [] a (k, few, is) = absurd (omega arith)
  among_contained (x ∷ xs) a (zero, few, is) = inl (sym is)
  among_contained (x ∷ xs) a (suc k, few, is) = inr (among_contained xs a (k, omega arith, is))

  pub contains_among : (xs : List A) (a : A) → Among xs a → Contains xs a
  contains_among [] a none = absurd none
  contains_among (x ∷ xs) a (inl is) = (0, omega arith, sym is)
  contains_among (x ∷ xs) a (inr later) =
      let at = contains_among xs a later in
      let few = at.1 in
      (suc at.0, omega arith, at.2)

module _ {A B : Type 0} where
  pub among_map : (f : A → B) (xs : List A) (a : A) → Among xs a → Among (map f xs) (f a)
  among_map f [] a none = absurd none
  among_map f (x ∷ xs) a (inl is) = inl (ap f is)
  among_map f (x ∷ xs) a (inr later) = inr (among_map f xs a later)

  pub from_map : (f : A → B) (xs : List A) (b : B) → Among (map f xs) b → AnyOf (λ a. b ≡ f a) xs
  from_map f [] b none = absurd none
  from_map f (x ∷ xs) b (inl is) = (x, inl refl, is)
  from_map f (x ∷ xs) b (inr later) =
      let any = from_map f xs b later in
      (any.0, inr any.1, any.2)

  pub among_flat_map : (f : A → List B) (xs : List A) (a : A) (b : B) → Among xs a → Among (f a) b → Among (flat_map f xs) b
  among_flat_map f [] a b none is = absurd none
  among_flat_map f (x ∷ xs) a b (inl same) is = among_left (f x) (flat_map f xs) b (subst (λ y. Among (f y) b) same is)
  among_flat_map f (x ∷ xs) a b (inr later) is = among_right (f x) (flat_map f xs) b (among_flat_map f xs a b later is)

  pub from_flat_map : (f : A → List B) (xs : List A) (b : B) → Among (flat_map f xs) b → AnyOf (λ a. Among (f a) b) xs
  from_flat_map f [] b none = absurd none
  from_flat_map f (x ∷ xs) b is = elim (among_either (f x) (flat_map f xs) b is) as (λ _. AnyOf (λ a. Among (f a) b) (x ∷ xs)) [
    | inl here ↦ (x, inl refl, here)
    | inr later ↦
        let any = from_flat_map f xs b later in
        (any.0, inr any.1, any.2)
  ]

  from_first : (h : A → Option B) (x : A) (xs : List A) (b : B) (o : Option B) → h x ≡ o → (Among (filter_map h xs) b → AnyOf (λ a. h a ≡ Some b) xs)
      → Among (cons_option o (filter_map h xs)) b → AnyOf (λ a. h a ≡ Some b) (x ∷ xs)
  from_first h x xs b None e later there =
      let any = later there in
      (any.0, inr any.1, any.2)
  from_first h x xs b (Some c) e later (inl same) = (x, inl refl, e ∙ ap Some (sym same))
  from_first h x xs b (Some c) e later (inr there) =
      let any = later there in
      (any.0, inr any.1, any.2)

  pub from_filter_map : (h : A → Option B) (xs : List A) (b : B) → Among (filter_map h xs) b → AnyOf (λ a. h a ≡ Some b) xs
  from_filter_map h [] b none = absurd none
  from_filter_map h (x ∷ xs) b is = from_first h x xs b (h x) refl (from_filter_map h xs b) is
