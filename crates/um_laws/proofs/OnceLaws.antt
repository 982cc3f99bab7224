-- A list that has each of its elements once is no longer than any that has them all; and each list has one with the same elements.
use Rattle.std.proofs.Common.{◌≡◌, ◌≢◌, ◌+◌, ◌<◌, ◌≤◌, ◌∙◌, ℕ, suc, List, [], ◌∷◌, length, get_or, AllPairs, Contains, refl, sym, subst, inl, inr, arith}
use Rattle.std.proofs.lemmas.List.Elements.{Contains-get_or}
use Rattle.std.proofs.lemmas.List.Kept.{AllPairs-cons}
use Rattle.um_laws.proofs.AmongLaws.{among_or_not, among_contained, contains_among, IsListOf}
use Rattle.um_model.proofs.LeastLaws.{IsDecided, Among}

module _ {A : Type 0} where
  -- the element at a place is among the list
  pub among_at : (xs : List A) (k : ℕ) (d : A) → k < length xs → Among xs (get_or xs k d)
  among_at xs k d few = among_contained xs (get_or xs k d) (Contains-get_or xs k d few)

  -- an element is taken out of a list once: all others stay
  take_out : (ys : List A) (x : A) → Among ys x → (zs : List A) × (length zs + 1 ≡ length ys) × ((z : A) → Among ys z → x ≢ z → Among zs z)
  take_out [] x none = absurd none
  take_out (y ∷ ys) x (inl is) = (ys, omega arith, others)
    where
      others : (z : A) → Among (y ∷ ys) z → x ≢ z → Among ys z
      others z (inl same) apart = absurd (apart (is ∙ sym same))
      others z (inr later) apart = later
  take_out (y ∷ ys) x (inr there) = with_first (take_out ys x there)
    where
      with_first : (zs : List A) × (length zs + 1 ≡ length ys) × ((z : A) → Among ys z → x ≢ z → Among zs z)
          → (zs : List A) × (length zs + 1 ≡ length (y ∷ ys)) × ((z : A) → Among (y ∷ ys) z → x ≢ z → Among zs z)
      with_first (zs, one_fewer, others) = (y ∷ zs, omega (arith, one_fewer), others_too)
        where
          others_too : (z : A) → Among (y ∷ ys) z → x ≢ z → Among (y ∷ zs) z
          others_too z (inl same) apart = inl same
          others_too z (inr later) apart = inr (others z later apart)

  -- different elements of a list are no more than the list has
  pub no_more : (xs ys : List A) → AllPairs (λ x y. x ≢ y) xs → ((z : A) → Among xs z → Among ys z) → length xs ≤ length ys
  no_more [] ys apart within = omega arith
  no_more (x ∷ xs) ys apart within =
      let left = take_out ys x (within x (inl refl)) in
      let rest = no_more xs left.0 (λ i j d less few. apart (suc i) (suc j) d (omega arith) (omega arith)) (λ z later. left.2 z (within z (inr later)) (first_apart z later)) in
      omega (arith, left.1, rest)
    where
      first_apart : (z : A) → Among xs z → x ≢ z
      first_apart z later is = absurd_at (contains_among xs z later)
        where
          absurd_at : Contains xs z → ⊥
          absurd_at (k, few, at) = apart 0 (suc k) z (omega arith) (omega arith) (is ∙ sym at)

  -- each element of a list once
  pub once_each : ((a b : A) → IsDecided (a ≡ b)) → (xs : List A) → (ys : List A) × IsListOf (Among xs) ys × AllPairs (λ x y. x ≢ y) ys
  once_each same [] = ([], record { has = λ a none. none; all = λ a none. none }, λ i j d less few. absurd (omega arith))
  once_each same (x ∷ xs) = with_first (among_or_not same xs x) (once_each same xs)
    where
      all_with : (ys : List A) → Among xs x → IsListOf (Among xs) ys → (a : A) → Among (x ∷ xs) a → Among ys a
      all_with ys again list a (inl is) = list.all a (subst (Among xs) (sym is) again)
      all_with ys again list a (inr later) = list.all a later

      has_first : (ys : List A) → IsListOf (Among xs) ys → (a : A) → Among (x ∷ ys) a → Among (x ∷ xs) a
      has_first ys list a (inl is) = inl is
      has_first ys list a (inr later) = inr (list.has a later)

      all_first : (ys : List A) → IsListOf (Among xs) ys → (a : A) → Among (x ∷ xs) a → Among (x ∷ ys) a
      all_first ys list a (inl is) = inl is
      all_first ys list a (inr later) = inr (list.all a later)

      with_first : IsDecided (Among xs x) → (ys : List A) × IsListOf (Among xs) ys × AllPairs (λ x y. x ≢ y) ys
          → (ys : List A) × IsListOf (Among (x ∷ xs)) ys × AllPairs (λ x y. x ≢ y) ys
      with_first (inl again) (ys, list, apart) = (ys, record { has = λ a among. inr (list.has a among); all = all_with ys again list }, apart)
      with_first (inr new) (ys, list, apart) = (
        x ∷ ys,
        record { has = has_first ys list; all = all_first ys list },
        AllPairs-cons (λ x y. x ≢ y) x ys (λ k d few is. new (subst (Among xs) (sym is) (list.has (get_or ys k d) (among_at ys k d few)))) apart,
      )
