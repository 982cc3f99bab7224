-- The items whose numbers pass a test, one after another.
use Rattle.std.proofs.Common.{◌≡◌, ◌∙◌, ◌+◌, ◌<◌, ◌≤◌, ◌++◌, ℕ, zero, suc, Bool, true, false, cond, List, [], ◌∷◌, map, AllPairs, All, Contains, refl, sym, ap, subst, inl, inr, arith, append_assoc, append-nil}
use Rattle.std.proofs.lemmas.List.Elements.{Contains-append_left, Contains-append_right, Contains-append_cases, All-append}
use Rattle.std.proofs.lemmas.List.Kept.{AllPairs-cons}
use Rattle.std.proofs.lemmas.Bool.{cases_lt}
use Rattle.um_state.specs.Working.{picked}

module _ {X : Type 0} (test : ℕ → Bool) (item : ℕ → X) where
  abbrev pub one : ℕ → List X
  one k = cond (test k) (item k ∷ []) []

  -- one number more
  pub picked_more : (k n : ℕ) → picked test item k (suc n) ≡ picked test item k n ++ one (k + n)
  picked_more k zero = append-nil (one k) ∙ ap one (omega arith)
  picked_more k (suc n) =
      ap (λ xs. one k ++ xs) (picked_more (suc k) n) ∙ (sym (append_assoc (one k) (picked test item (suc k) n) (one (suc k + n))) ∙ ap (λ j. (one k ++ picked test item (suc k) n) ++ one j) (omega arith))

  all_one : (P : X → Type 0) (k : ℕ) → P (item k) → All P (one k)
  all_one P k h = elim (test k) as (λ b. All P (cond b (item k ∷ []) [])) [ true ↦ first | false ↦ λ j d l. absurd (omega (arith, l)) ]
    where
      first : All P (item k ∷ [])
      first zero d l = h
      first (suc j) d l = absurd (omega (arith, l))

  pub all_picked : (P : X → Type 0) (k n : ℕ) → ((i : ℕ) → k ≤ i → i < k + n → P (item i)) → All P (picked test item k n)
  all_picked P k zero h = λ j d l. absurd (omega (arith, l))
  all_picked P k (suc n) h = All-append P (one k) (picked test item (suc k) n) (all_one P k (h k (omega arith) (omega arith))) (all_picked P (suc k) n (λ i l m. h i (omega (arith, l)) (omega (arith, m))))

  pairs_one : (R : X → X → Type 0) (k : ℕ) (xs : List X) → All (R (item k)) xs → AllPairs R xs → AllPairs R (one k ++ xs)
  pairs_one R k xs h rest = elim (test k) as (λ b. AllPairs R (cond b (item k ∷ []) [] ++ xs)) [ true ↦ AllPairs-cons R (item k) xs h rest | false ↦ rest ]

  pub pairs_picked : (R : X → X → Type 0) (k n : ℕ) → ((i j : ℕ) → i < j → j < k + n → R (item i) (item j)) → AllPairs R (picked test item k n)
  pairs_picked R k zero h = λ i j d l m. absurd (omega (arith, m))
  pairs_picked R k (suc n) h =
      pairs_one R k (picked test item (suc k) n) (all_picked (R (item k)) (suc k) n (λ i l m. h k i (omega (arith, l)) (omega (arith, m))))
      (pairs_picked R (suc k) n (λ i j l m. h i j l (omega (arith, m))))

  one_there : (k : ℕ) → test k ≡ true → Contains (one k) (item k)
  one_there k t = subst (λ b. Contains (cond b (item k ∷ []) []) (item k)) (sym t) (0, omega arith, refl)

  -- a number that passes has its item there
  pub picked_there : (k n i : ℕ) → k ≤ i → i < k + n → test i ≡ true → Contains (picked test item k n) (item i)
  picked_there k zero i l m t = absurd (omega (arith, l, m))
  picked_there k (suc n) i l m t = elim (cases_lt k i) as (λ _. Contains (picked test item k (suc n)) (item i)) [
    | inl lower ↦ Contains-append_right (one k) (picked test item (suc k) n) (item i) (picked_there (suc k) n i (omega (arith, lower)) (omega (arith, m)) t)
    | inr past ↦
        let same : k ≡ i = omega (arith, l, past) in
        subst (λ j. Contains (picked test item k (suc n)) (item j)) same
        (Contains-append_left (one k) (picked test item (suc k) n) (item k) (one_there k (ap test same ∙ t)))
  ]

  abbrev pub IsPickedAt : ℕ → ℕ → X → Type 0
  IsPickedAt k n x = (i : ℕ) × (k ≤ i) × (i < k + n) × (test i ≡ true) × (item i ≡ x)

  one_is : (k : ℕ) (x : X) (b : Bool) → test k ≡ b → Contains (cond b (item k ∷ []) []) x → (test k ≡ true) × (item k ≡ x)
  one_is k x true t (zero, l, e) = (t, e)
  one_is k x true t (suc j, l, e) = absurd (omega (arith, l))
  one_is k x false t (j, l, e) = absurd (omega (arith, l))

  -- and the item there is that of a number that passes
  pub picked_is : (k n : ℕ) (x : X) → Contains (picked test item k n) x → IsPickedAt k n x
  picked_is k zero x (j, l, e) = absurd (omega (arith, l))
  picked_is k (suc n) x c = elim (Contains-append_cases (one k) (picked test item (suc k) n) x c) as (λ _. IsPickedAt k (suc n) x) [
    | inl here ↦ let h = one_is k x (test k) refl here in (k, omega arith, omega arith, h.0, h.1)
    | inr later ↦ let h = picked_is (suc k) n x later in (h.0, omega (arith, h.1), omega (arith, h.2), h.3, h.4)
  ]

  one_mapped : {Y : Type 0} (f : X → Y) (b : Bool) (x : X) (xs : List X) → map f (cond b (x ∷ []) [] ++ xs) ≡ cond b (f x ∷ []) [] ++ map f xs
  one_mapped f true x xs = refl
  one_mapped f false x xs = refl

  pub picked_mapped : {Y : Type 0} (f : X → Y) (k n : ℕ) → map f (picked test item k n) ≡ picked test (λ i. f (item i)) k n
  picked_mapped f k zero = refl
  picked_mapped f k (suc n) = one_mapped f (test k) (item k) (picked test item (suc k) n) ∙ ap (λ xs. cond (test k) (f (item k) ∷ []) [] ++ xs) (picked_mapped f (suc k) n)
