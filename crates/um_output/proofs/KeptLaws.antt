-- Numbers noted once, and files by their numbers.
use Rattle.std.proofs.Common.{◌≡◌, ◌<◌, ◌+◌, ◌==◌, ◌||◌, ℕ, Bool, true, false, not, List, [], ◌∷◌, ◌++◌, filter, take, length, get_or, append-nil, refl, sym, ap, subst, ◌∙◌}
use Rattle.std.specs.List.{list_all}
use Rattle.std.proofs.lemmas.Bool.{eqb-true, true≢false}
use Rattle.std.proofs.lemmas.List.Elements.{filter_more}
use Rattle.std.proofs.lemmas.List.Folds.{list_all-append}
use Rattle.um_model.proofs.EntriesLaws.{both_true, left_true, right_true}
use Rattle.um_model.specs.StateSpellings.{are_distinct}
use Rattle.um_output.specs.Kept.{has}

or_left : (a b : Bool) → (a || b) ≡ false → a ≡ false
or_left true b e = e
or_left false b e = refl

or_right : (a b : Bool) → (a || b) ≡ false → b ≡ false
or_right true b e = absurd (true≢false e)
or_right false b e = e

eqb_swap : (a b : ℕ) → (c d : Bool) → (a == b) ≡ c → (b == a) ≡ d → (a == b) ≡ (b == a)
eqb_swap a b true d p q = subst (λ x. (a == x) ≡ (x == a)) (eqb-true a b p) refl
eqb_swap a b false true p q = subst (λ x. (x == b) ≡ (b == x)) (eqb-true b a q) refl
eqb_swap a b false false p q = p ∙ sym q

-- one more that isn't among them yet
pub distinct_push : (n : ℕ) (ns : List ℕ) → are_distinct ns ≡ true → has n ns ≡ false → are_distinct (ns ++ n ∷ []) ≡ true
distinct_push n [] d e = refl
distinct_push n (m ∷ ns) d e =
    both_true (list_all (λ k. not (k == m)) (ns ++ n ∷ [])) (are_distinct (ns ++ n ∷ []))
    (list_all-append (λ k. not (k == m)) ns (n ∷ []) ∙ both_true (list_all (λ k. not (k == m)) ns) (list_all (λ k. not (k == m)) (n ∷ []))
    (left_true (list_all (λ k. not (k == m)) ns) (are_distinct ns) d)
    (both_true (not (n == m)) true (ap not (eqb_swap n m (n == m) (m == n) refl refl ∙ or_left (m == n) (has n ns) e)) refl))
    (distinct_push n ns (right_true (list_all (λ k. not (k == m)) ns) (are_distinct ns) d) (or_right (m == n) (has n ns) e))

-- one element more that passes the test, or that doesn't
pub filter_yes : (p : ℕ → Bool) (ns : List ℕ) (i n : ℕ) (kept : List ℕ) → i < length ns → kept ≡ filter p (take i ns) → n ≡ get_or ns i n → p n ≡ true
    → kept ++ n ∷ [] ≡ filter p (take (i + 1) ns)
filter_yes p ns i n kept within before at passes =
    let more : filter p (take (i + 1) ns) ≡ filter p (take i ns) ++ n ∷ [] = filter_more p ns i n within ∙ rw (sym at, passes) refl in
    ap (λ xs. xs ++ n ∷ []) before ∙ sym more

pub filter_no : (p : ℕ → Bool) (ns : List ℕ) (i n : ℕ) (kept : List ℕ) → i < length ns → kept ≡ filter p (take i ns) → n ≡ get_or ns i n → p n ≡ false
    → kept ≡ filter p (take (i + 1) ns)
filter_no p ns i n kept within before at fails =
    let more : filter p (take (i + 1) ns) ≡ filter p (take i ns) = filter_more p ns i n within ∙ rw (sym at, fails) (append-nil (filter p (take i ns))) in
    before ∙ sym more
