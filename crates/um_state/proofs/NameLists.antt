-- Two lists of names in order are one where each name is among both or among none.
use Rattle.std.proofs.Common.{◌≡◌, ◌≢◌, ◌⊎◌, ◌∙◌, ◌<◌, ◌||◌, ℕ, suc, Bool, true, false, true≢false, List, [], ◌∷◌, length, Less, Greater, refl, sym, ap, subst, inl, inr, arith}
use Rattle.std.specs.Cmp.Lexicographic.{slice_cmp, nat_list_cmp_total}
use Rattle.std.specs.List.{list_any}
use Rattle.std.specs.Ordering.{nat_cmp, ordering_reverse}
use Rattle.std.specs.Str.{bytes_eq}
use Rattle.std.proofs.lemmas.Slice.Eq.{bytes_eq-Decides}
use Rattle.um_model.specs.Least.{IsNamedBefore}
use Rattle.um_name.specs.Names.{AreAscending, IsApart, name_at}
use Rattle.um_name.proofs.NumberLaws.{among_or_apart, not_before_itself, same_name}
use Rattle.um_state.proofs.SameLaws.{apart_none}

not_both : (a b : List ℕ) → IsNamedBefore a b → IsNamedBefore b a → ⊥
not_both a b l m =
    let turned : Less ≡ Greater = sym l ∙ (nat_list_cmp_total.antisymm a b ∙ ap ordering_reverse m) in
    cc

unequal : (x n : List ℕ) → x ≢ n → bytes_eq x n ≡ false
unequal x n other = by (bytes_eq x n) refl
  where
    by : (b : Bool) → bytes_eq x n ≡ b → b ≡ false
    by true e = absurd (other ((bytes_eq-Decides x n).0 e))
    by false e = refl

-- a name is among those of which it is the first, and another one among these where it is among the rest
first : (n : List ℕ) (ns : List (List ℕ)) → list_any (bytes_eq n) (n ∷ ns) ≡ true
first n ns = ap (λ b. b || list_any (bytes_eq n) ns) ((bytes_eq-Decides n n).1 refl)

skipped : (x n : List ℕ) (ns : List (List ℕ)) → x ≢ n → list_any (bytes_eq x) (n ∷ ns) ≡ list_any (bytes_eq x) ns
skipped x n ns other = ap (λ b. b || list_any (bytes_eq x) ns) (unequal x n other)

rest_of : (n : List ℕ) (ns : List (List ℕ)) → AreAscending (n ∷ ns) → AreAscending ns
rest_of n ns sorted i j d h k = sorted (suc i) (suc j) d (omega (arith, h)) (omega (arith, k))

-- the first one comes before each of the rest
behind : (n : List ℕ) (ns : List (List ℕ)) → AreAscending (n ∷ ns) → (x : List ℕ) → list_any (bytes_eq x) ns ≡ true → IsNamedBefore n x
behind n ns sorted x among = by (among_or_apart ns x)
  where
    by : ((i : ℕ) × (i < length ns) × (name_at ns i ≡ x)) ⊎ IsApart ns x → IsNamedBefore n x
    by (inl (i, h, e)) = subst (IsNamedBefore n) e (sorted 0 (suc i) [] (omega arith) (omega (arith, h)))
    by (inr apart) = absurd (true≢false (sym among ∙ apart_none ns x apart))

not_behind : (n : List ℕ) (ns : List (List ℕ)) → AreAscending (n ∷ ns) → list_any (bytes_eq n) ns ≡ false
not_behind n ns sorted = by (list_any (bytes_eq n) ns) refl
  where
    by : (b : Bool) → list_any (bytes_eq n) ns ≡ b → b ≡ false
    by true e = absurd (not_before_itself n n (behind n ns sorted n e) refl)
    by false e = refl

module _ (n m : List ℕ) (ns ms : List (List ℕ)) (sorted : AreAscending (n ∷ ns)) (rising : AreAscending (m ∷ ms))
    (whole : (x : List ℕ) → list_any (bytes_eq x) (n ∷ ns) ≡ list_any (bytes_eq x) (m ∷ ms)) where
  ahead : n ≢ m → ⊥
  ahead other = not_both m n
      (behind m ms rising n (sym (skipped n m ms other) ∙ (sym (whole n) ∙ first n ns)))
      (behind n ns sorted m (sym (skipped m n ns (λ e. other (sym e))) ∙ (whole m ∙ first m ms)))

  -- the first of one is the first of the other
  same_first : n ≡ m
  same_first = by (same_name n m)
    where
      by : (n ≡ m) ⊎ (n ≢ m) → n ≡ m
      by (inl same) = same
      by (inr other) = absurd (ahead other)

  -- and so is the rest
  same_rest : n ≡ m → (x : List ℕ) → list_any (bytes_eq x) ns ≡ list_any (bytes_eq x) ms
  same_rest same x = by (same_name x n)
    where
      by : (x ≡ n) ⊎ (x ≢ n) → list_any (bytes_eq x) ns ≡ list_any (bytes_eq x) ms
      by (inl is) =
          ap (λ y. list_any (bytes_eq y) ns) is ∙ (not_behind n ns sorted
          ∙ (sym (not_behind m ms rising) ∙ ap (λ y. list_any (bytes_eq y) ms) (sym (is ∙ same))))
      by (inr other) = sym (skipped x n ns other) ∙ (whole x ∙ skipped x m ms (λ e. other (e ∙ sym same)))

pub same_names : (ns ms : List (List ℕ)) → AreAscending ns → AreAscending ms → ((x : List ℕ) → list_any (bytes_eq x) ns ≡ list_any (bytes_eq x) ms) → ns ≡ ms
same_names [] [] sorted rising whole = refl
same_names [] (m ∷ ms) sorted rising whole = absurd (true≢false (sym (first m ms) ∙ sym (whole m)))
same_names (n ∷ ns) [] sorted rising whole = absurd (true≢false (sym (first n ns) ∙ whole n))
same_names (n ∷ ns) (m ∷ ms) sorted rising whole =
    let same : n ≡ m = same_first n m ns ms sorted rising whole in
    let rest = same_names ns ms (rest_of n ns sorted) (rest_of m ms rising) (same_rest n m ns ms sorted rising whole same) in
    λ i. same i ∷ rest i
