-- At the root of the tree stands the least number of the set.
use Rattle.std.proofs.Common.{◌≡◌, ◌∙◌, ℕ, zero, suc, ◌+◌, ◌-◌, ◌/◌, ◌<◌, ◌≤◌, Bool, true, false, List, length, get_or, refl, sym, ap, subst, inl, inr, arith}
use Rattle.std.proofs.lemmas.Bool.{cases_lt}
use Rattle.um_jobs.specs.Least.{IsLeastIn, IsNone, IsTreeOf, leaf_of}

module _ (marks : List Bool) (tree : List ℕ) (is : IsTreeOf marks tree) where
  abbrev n : ℕ
  n = length marks

  abbrev at : ℕ → ℕ
  at i = get_or tree i 0

  -- the root is at most the number at any place
  root_below : (fuel i : ℕ) → i ≤ fuel → 1 ≤ i → i < n + n → at 1 ≤ at i
  root_below zero i h l k = absurd (omega arith)
  root_below (suc fuel) i h l k = elim (cases_lt 1 i) as (λ _. at 1 ≤ at i) [
    | inr one ↦ let e : 1 ≡ i = omega arith in let f : at 1 ≡ at i = ap at e in omega arith
    | inl more ↦
        let j = i / 2 in
        let up : at 1 ≤ at j = root_below fuel j (omega arith) (omega arith) (omega arith) in
        let here = is.lesser j (omega arith) (omega arith) in
        elim (cases_lt (j + j) i) as (λ _. at 1 ≤ at i) [
          | inl odd ↦ let e : j + j + 1 ≡ i = omega arith in let f : at (j + j + 1) ≡ at i = ap at e in omega arith
          | inr even ↦ let e : j + j ≡ i = omega arith in let f : at (j + j) ≡ at i = ap at e in omega arith
        ]
  ]

  leaf_real : (b : Bool) (i : ℕ) → get_or marks i false ≡ b → leaf_of b i n < n → get_or marks (leaf_of b i n) false ≡ true
  leaf_real true i e h = e
  leaf_real false i e h = absurd (omega arith)

  -- the number at any place is in the set, unless it is the limit
  is_real : (fuel i : ℕ) → n + n ≤ fuel + i → 1 ≤ i → i < n + n → at i < n → get_or marks (at i) false ≡ true
  is_real zero i h l k s = absurd (omega arith)
  is_real (suc fuel) i h l k s = elim (cases_lt i n) as (λ _. get_or marks (at i) false ≡ true) [
    | inl inner ↦
        let here = is.lesser i l inner in
        elim (cases_lt (at (i + i)) (at (i + i + 1))) as (λ _. get_or marks (at i) false ≡ true) [
          | inl left ↦ let e : at i ≡ at (i + i) = omega arith in subst (λ m. get_or marks m false ≡ true) (sym e) (is_real fuel (i + i) (omega arith) (omega arith) (omega arith) (omega arith))
          | inr right ↦ let e : at i ≡ at (i + i + 1) = omega arith in subst (λ m. get_or marks m false ≡ true) (sym e) (is_real fuel (i + i + 1) (omega arith) (omega arith) (omega arith) (omega arith))
        ]
    | inr leaf ↦
        let j = i - n in
        let e : n + j ≡ i = omega arith in
        let there : at i ≡ leaf_of (get_or marks j false) j n = ap at (sym e) ∙ is.leaves j (omega arith) in
        subst (λ m. get_or marks m false ≡ true) (sym there) (leaf_real (get_or marks j false) j refl (subst (λ m. m < n) there s))
  ]

  leaf_low : (j : ℕ) (b : Bool) → get_or marks j false ≡ b → (b ≡ true → ⊥) → get_or marks j false ≡ false
  leaf_low j true e f = absurd (f refl)
  leaf_low j false e f = e

  marked_low : (j : ℕ) → j < n → get_or marks j false ≡ true → at 1 ≤ j
  marked_low j l t =
      let leaf : at (n + j) ≡ j = is.leaves j l ∙ ap (λ b. leaf_of b j n) t in
      let low = root_below (n + j) (n + j) (omega arith) (omega arith) (omega arith) in omega arith

  pub root_least : 0 < n → at 1 < n → IsLeastIn marks (at 1)
  root_least some h = record {
    within = h;
    has = is_real (n + n) 1 (omega arith) (omega arith) (omega arith) h;
    first = λ j l. leaf_low j (get_or marks j false) refl (λ t. let low = marked_low j (omega arith) t in omega arith);
  }

  pub root_none : n ≤ at 1 → IsNone marks
  root_none h j l = leaf_low j (get_or marks j false) refl (λ t. let low = marked_low j l t in omega arith)
