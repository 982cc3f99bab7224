-- The elements of lists that are joined from lists, one after another.
use Rattle.std.proofs.Common.{◌≡◌, ◌⊎◌, ◌<◌, ◌+◌, ◌∙◌, ℕ, zero, suc, length, take, get_or, append-nil, List, [], ◌∷◌, ◌++◌, Contains, map, refl, sym, ap, subst, inl, inr, arith}
use Rattle.std.proofs.lemmas.List.{take_more}
use Rattle.std.proofs.lemmas.List.Concat.{flat_map-append}
use Rattle.std.specs.List.{flat_map}
use Rattle.std.proofs.lemmas.List.Elements.{Contains-append_left, Contains-append_right, Contains-append_cases}

pub contains_flat : {A B : Type 0} (f : A → List B) (xs : List A) (x : A) (y : B) → Contains xs x → Contains (f x) y → Contains (flat_map f xs) y
contains_flat f [] x y (k, h, e) c = absurd (omega arith)
contains_flat f (z ∷ xs) x y (zero, h, e) c = Contains-append_left (f z) (flat_map f xs) y (subst (λ w. Contains (f w) y) (sym e) c)
contains_flat f (z ∷ xs) x y (suc k, h, e) c = Contains-append_right (f z) (flat_map f xs) y (contains_flat f xs x y (k, omega arith, e) c)

pub flat_contains : {A B : Type 0} (f : A → List B) (xs : List A) (y : B) → Contains (flat_map f xs) y → (x : A) × Contains xs x × Contains (f x) y
flat_contains f [] y (k, h, e) = absurd (omega arith)
flat_contains f (z ∷ xs) y c = elim (Contains-append_cases (f z) (flat_map f xs) y c) [
  | inl a ↦ (z, (0, omega arith, refl), a)
  | inr b ↦ let r = flat_contains f xs y b in (r.0, (suc r.1.0, omega (arith, r.1.1), r.1.2), r.2)
]

pub in_none : {A : Type 0} (x : A) → Contains [] x → ⊥
in_none x (k, h, e) = omega arith

pub in_one : {A : Type 0} (a : A) → Contains (a ∷ []) a
in_one a = (0, omega arith, refl)

pub is_one : {A : Type 0} (a x : A) → Contains (a ∷ []) x → a ≡ x
is_one a x (zero, h, e) = e
is_one a x (suc k, h, e) = absurd (omega arith)

pub in_first : {A : Type 0} (a b : A) → Contains (a ∷ b ∷ []) a
in_first a b = (0, omega arith, refl)

pub in_second : {A : Type 0} (a b : A) → Contains (a ∷ b ∷ []) b
in_second a b = (1, omega arith, refl)

pub one_of_two : {A : Type 0} (a b x : A) → Contains (a ∷ b ∷ []) x → (a ≡ x) ⊎ (b ≡ x)
one_of_two a b x (zero, h, e) = inl e
one_of_two a b x (suc zero, h, e) = inr e
one_of_two a b x (suc (suc k), h, e) = absurd (omega arith)

pub in_cons : {A : Type 0} (a : A) (ys : List A) (x : A) → Contains (a ∷ ys) x → (a ≡ x) ⊎ Contains ys x
in_cons a ys x (zero, h, e) = inl e
in_cons a ys x (suc k, h, e) = inr (k, omega arith, e)

pub cons_in : {A : Type 0} (a : A) (ys : List A) (x : A) → Contains ys x → Contains (a ∷ ys) x
cons_in a ys x (k, h, e) = (suc k, omega arith, e)

pub map_pushed : {A B : Type 0} (f : A → B) (xs : List A) (x : A) (ys : List B) → map f (xs ++ x ∷ []) ++ ys ≡ map f xs ++ f x ∷ ys
map_pushed f [] x ys = refl
map_pushed f (z ∷ xs) x ys = ap (λ us. f z ∷ us) (map_pushed f xs x ys)

-- one element more
more_made : {A B : Type 0} (f : A → List B) (xs : List A) (i : ℕ) (x : A) → i < length xs → flat_map f (take i xs) ++ f (get_or xs i x) ≡ flat_map f (take (i + 1) xs)
more_made f xs i x within =
    ap (λ ys. flat_map f (take i xs) ++ ys) (sym (append-nil (f (get_or xs i x))))
    ∙ (sym (flat_map-append f (take i xs) (get_or xs i x ∷ [])) ∙ ap (flat_map f) (sym (take_more xs i x within)))

-- one element more whose list has one element
pub one_made : {A B : Type 0} (f : A → List B) (xs : List A) (i : ℕ) (x : A) (old new : List B) (b : B) → i < length xs → old ≡ flat_map f (take i xs)
    → b ∷ [] ≡ f (get_or xs i x) → new ≡ old ++ b ∷ [] → new ≡ flat_map f (take (i + 1) xs)
one_made f xs i x old new b within made gives grown =
    grown ∙ (ap (λ ys. ys ++ b ∷ []) made ∙ (ap (λ ys. flat_map f (take i xs) ++ ys) gives ∙ more_made f xs i x within))

-- one element more whose list is empty
pub none_made : {A B : Type 0} (f : A → List B) (xs : List A) (i : ℕ) (x : A) (old new : List B) → i < length xs → old ≡ flat_map f (take i xs)
    → [] ≡ f (get_or xs i x) → new ≡ old → new ≡ flat_map f (take (i + 1) xs)
none_made f xs i x old new within made gives same =
    same ∙ (made ∙ (sym (append-nil (flat_map f (take i xs))) ∙ (ap (λ ys. flat_map f (take i xs) ++ ys) gives ∙ more_made f xs i x within)))
