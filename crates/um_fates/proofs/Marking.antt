-- A number is marked.
use Rattle.std.proofs.Common.{◌≡◌, ◌≤◌, ◌==◌, ℕ, List, [], ◌∷◌, ◌++◌, length, filter, Bool, true, false, not, ◌||◌, ◌&&◌, nat_lt, cond, refl, sym, ap, subst, ◌∙◌, arith}
use Rattle.std.specs.List.{list_all}
use Rattle.std.proofs.lemmas.Bool.{eqb-true, ltb-false, true≢false}
use Rattle.std.proofs.lemmas.List.Folds.{list_any-append, list_all-append}
use Rattle.std.proofs.lemmas.Map.Views.{any-filter_same}
use Rattle.um_model.proofs.EntriesLaws.{both_true, left_true, right_true}
use Rattle.um_model.specs.Service.{ByUnit}
use Rattle.um_model.specs.StateSpellings.{are_distinct}
use Rattle.um_model.specs.declared.service.UnitState.{UnitState}
use Rattle.um_fates.specs.Live.{has, is_live, HasFewLive}

or_false : (a : Bool) → (a || false) ≡ a
or_false true = refl
or_false false = refl

or_left : (a b : Bool) → (a || b) ≡ false → a ≡ false
or_left true b e = e
or_left false b e = refl

or_right : (a b : Bool) → (a || b) ≡ false → b ≡ false
or_right true b e = absurd (true≢false e)
or_right false b e = e

-- a number that isn't in a list differs from each in it
pub differs : (n : ℕ) (ns : List ℕ) → has n ns ≡ false → list_all (λ m. not (m == n)) ns ≡ true
differs n [] e = refl
differs n (m ∷ ns) e = both_true (not (m == n)) (list_all (λ m. not (m == n)) ns) (ap not (or_left (m == n) (has n ns) e)) (differs n ns (or_right (m == n) (has n ns) e))

eqb_swap : (a b : ℕ) → (c d : Bool) → (a == b) ≡ c → (b == a) ≡ d → (a == b) ≡ (b == a)
eqb_swap a b true d p q = subst (λ x. (a == x) ≡ (x == a)) (eqb-true a b p) refl
eqb_swap a b false true p q = subst (λ x. (x == b) ≡ (b == x)) (eqb-true b a q) refl
eqb_swap a b false false p q = p ∙ sym q

-- one more that isn't in it yet
pub distinct_push : (n : ℕ) (ns : List ℕ) → are_distinct ns ≡ true → has n ns ≡ false → are_distinct (ns ++ n ∷ []) ≡ true
distinct_push n [] d e = refl
distinct_push n (m ∷ ns) d e =
    both_true (list_all (λ k. not (k == m)) (ns ++ n ∷ [])) (are_distinct (ns ++ n ∷ []))
    (list_all-append (λ k. not (k == m)) ns (n ∷ []) ∙ both_true (list_all (λ k. not (k == m)) ns) (list_all (λ k. not (k == m)) (n ∷ []))
    (left_true (list_all (λ k. not (k == m)) ns) (are_distinct ns) d)
    (both_true (not (n == m)) true (ap not (eqb_swap n m (n == m) (m == n) refl refl ∙ or_left (m == n) (has n ns) e)) refl))
    (distinct_push n ns (right_true (list_all (λ k. not (k == m)) ns) (are_distinct ns) d) (or_right (m == n) (has n ns) e))

all_filter : (test keep : ℕ → Bool) (ns : List ℕ) → list_all test ns ≡ true → list_all test (filter keep ns) ≡ true
all_filter test keep [] h = refl
all_filter test keep (n ∷ ns) h = by (keep n) (all_filter test keep ns (right_true (test n) (list_all test ns) h))
  where
    by : (b : Bool) → list_all test (filter keep ns) ≡ true → list_all test (cond b (n ∷ filter keep ns) (filter keep ns)) ≡ true
    by true later = both_true (test n) (list_all test (filter keep ns)) (left_true (test n) (list_all test ns) h) later
    by false later = later

pub distinct_filter : (keep : ℕ → Bool) (ns : List ℕ) → are_distinct ns ≡ true → are_distinct (filter keep ns) ≡ true
distinct_filter keep [] h = refl
distinct_filter keep (n ∷ ns) h = by (keep n) (distinct_filter keep ns (right_true (list_all (λ m. not (m == n)) ns) (are_distinct ns) h))
  where
    by : (b : Bool) → are_distinct (filter keep ns) ≡ true → are_distinct (cond b (n ∷ filter keep ns) (filter keep ns)) ≡ true
    by true later = both_true (list_all (λ m. not (m == n)) (filter keep ns)) (are_distinct (filter keep ns)) (all_filter (λ m. not (m == n)) keep ns (left_true (list_all (λ m. not (m == n)) ns) (are_distinct ns) h)) later
    by false later = later

pub all_kept : (keep : ℕ → Bool) (ns : List ℕ) → list_all keep (filter keep ns) ≡ true
all_kept keep [] = refl
all_kept keep (n ∷ ns) = by (keep n) refl (all_kept keep ns)
  where
    by : (b : Bool) → keep n ≡ b → list_all keep (filter keep ns) ≡ true → list_all keep (cond b (n ∷ filter keep ns) (filter keep ns)) ≡ true
    by true e later = both_true (keep n) (list_all keep (filter keep ns)) e later
    by false e later = later

has_filter : (keep : ℕ → Bool) (n : ℕ) (ns : List ℕ) → has n (filter keep ns) ≡ (keep n && has n ns)
has_filter keep n ns = any-filter_same (λ m. m == n) keep (keep n) (λ k e. ap keep (eqb-true k n e)) ns

-- a live number stays
pub live_stays : (keep : ℕ → Bool) (n : ℕ) (ns : List ℕ) → keep n ≡ true → has n (filter keep ns) ≡ has n ns
live_stays keep n ns h = has_filter keep n ns ∙ ap (λ b. b && has n ns) h

false_stays : (a b : Bool) → b ≡ false → (a && b) ≡ false
false_stays true b e = e
false_stays false b e = refl

-- and none is added
pub none_comes : (keep : ℕ → Bool) (n : ℕ) (ns : List ℕ) → has n ns ≡ false → has n (filter keep ns) ≡ false
none_comes keep n ns h = has_filter keep n ns ∙ false_stays (keep n) (has n ns) h

-- a number is marked beside the others: where there is no room for it, it isn't live
pub marked : (units : ByUnit UnitState) (number : ℕ) (old mid new : List ℕ) → ((n : ℕ) → is_live units n ≡ true → has n mid ≡ has n old)
    → ((n : ℕ) → has n old ≡ false → has n mid ≡ false) → (2048 ≤ length mid → list_all (is_live units) mid ≡ true) → are_distinct mid ≡ true
    → has number old ≡ false → new ≡ cond (nat_lt (length mid) 2048) (mid ++ number ∷ []) mid
    → HasFewLive units → (n : ℕ) → is_live units n ≡ true → has n new ≡ (has n old || has n (number ∷ []))
marked units number old mid new stays none full once isnt is few n live = ap (has n) is ∙ by (nat_lt (length mid) 2048) refl (is_live units number) refl
  where
    other : (b : Bool) → (number == n) ≡ b → is_live units number ≡ false → (b || false) ≡ false
    other true e dead = absurd (true≢false (sym live ∙ (ap (is_live units) (sym (eqb-true number n e)) ∙ dead)))
    other false e dead = refl

    by : (b : Bool) → nat_lt (length mid) 2048 ≡ b → (l : Bool) → is_live units number ≡ l → has n (cond b (mid ++ number ∷ []) mid) ≡ (has n old || has n (number ∷ []))
    by true e l d = list_any-append (λ m. m == n) mid (number ∷ []) ∙ ap (λ b. b || has n (number ∷ [])) (stays n live)
    by false e true d =
        let many : 2048 ≤ length mid = ltb-false (length mid) 2048 e in
        let more = few (number ∷ mid) (both_true (list_all (λ m. not (m == number)) mid) (are_distinct mid) (differs number mid (none number isnt)) once) (both_true (is_live units number) (list_all (is_live units) mid) d (full many)) in
        absurd (omega (arith, many, more))
    by false e false d = stays n live ∙ sym (ap (λ b. has n old || b) (other (number == n) refl d) ∙ or_false (has n old))
