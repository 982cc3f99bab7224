-- The units that aren't known without the entries under `run/` are found one after another, and no other is to be looked at.
use Rattle.std.proofs.Common.{◌≡◌, ◌⊎◌, ◌+◌, ◌<◌, ◌++◌, ◌∷◌, [], ℕ, List, Contains, Some, slice_get, sym, subst, inl, inr, arith}
use Rattle.std.proofs.lemmas.Bool.{cases_lt}
use Rattle.std.proofs.lemmas.List.Elements.{Contains-append_left, Contains-push}

-- the same for the numbers below n
abbrev pub PassingBelow : (names lasting : List (List ℕ)) → ℕ → List ℕ → Type 0
PassingBelow names lasting n passing = (i : ℕ) → i < n → (unit : List ℕ) → slice_get names i ≡ Some unit → Contains lasting unit ⊎ Contains passing i

module _ (names lasting : List (List ℕ)) (n : ℕ) (passing later : List ℕ) (below : PassingBelow names lasting n passing) where
  -- the next one passes
  pub one_passes : later ≡ passing ++ n ∷ [] → PassingBelow names lasting (n + 1) later
  one_passes is i l unit at = elim (cases_lt i n) as (λ _. Contains lasting unit ⊎ Contains later i) [
    | inl lower ↦ elim (below i lower unit at) as (λ _. Contains lasting unit ⊎ Contains later i) [
      | inl lasts ↦ inl lasts
      | inr there ↦ inr (subst (λ xs. Contains xs i) (sym is) (Contains-append_left passing (n ∷ []) i there))
    ]
    | inr past ↦
        let same : n ≡ i = omega (arith, l, past) in
        inr (subst (λ k. Contains later k) same (subst (λ xs. Contains xs n) (sym is) (Contains-push passing n)))
  ]

  -- the next one lasts
  pub one_lasts : later ≡ passing → ((unit : List ℕ) → slice_get names n ≡ Some unit → Contains lasting unit) → PassingBelow names lasting (n + 1) later
  one_lasts is lasts i l unit at = elim (cases_lt i n) as (λ _. Contains lasting unit ⊎ Contains later i) [
    | inl lower ↦ subst (λ xs. Contains lasting unit ⊎ Contains xs i) (sym is) (below i lower unit at)
    | inr past ↦
        let same : i ≡ n = omega (arith, l, past) in
        inl (lasts unit (subst (λ k. slice_get names k ≡ Some unit) same at))
  ]
