-- Whether numbers are distinct, by a walk that keeps those already seen.
use Rattle.std.proofs.Common.{◌≡◌, ℕ, ◌==◌, Bool, true, false, not, cond, ◌&&◌, List, [], ◌∷◌, Ordering, Equal, is_eq, refl, sym, ap, ◌∙◌}
use Rattle.std.specs.BTreeSet.{BTreeSet, contains}
use Rattle.std.specs.BTreeMap.{is_at}
use Rattle.std.specs.Cmp.{nat_cmp_is}
use Rattle.std.specs.FinMap.{nat_cmp-IsAntisymmetric}
use Rattle.std.specs.List.{list_all, list_any}
use Rattle.std.specs.Ordering.{nat_cmp}
use Rattle.std.proofs.lemmas.Bool.{eqb-true, eqb-false}
use Rattle.um_model.specs.StateSpellings.{are_distinct}

-- the numbers are distinct, and none of them is held
abbrev pub are_new : (ℕ → Bool) → List ℕ → Bool
are_new held ns = list_all (λ m. not (held m)) ns && are_distinct ns

at_same : (n m : ℕ) → is_eq (nat_cmp n m) ≡ (m == n)
at_same n m = by (m == n) refl where
  equal : (r : Ordering) → is_eq r ≡ true → r ≡ Equal
  equal Equal e = refl
  equal Ordering.Less e = absurd cc
  equal Ordering.Greater e = absurd cc

  differ : (b : Bool) → is_eq (nat_cmp n m) ≡ b → (m == n) ≡ false → is_eq (nat_cmp n m) ≡ false
  differ false is e = is
  differ true is e = absurd (eqb-false m n e (sym (nat_cmp-IsAntisymmetric n m (equal _ is))))

  by : (b : Bool) → (m == n) ≡ b → is_eq (nat_cmp n m) ≡ (m == n)
  by true e = ap is_eq (sym (nat_cmp_is n m Equal (sym (eqb-true m n e)))) ∙ sym e
  by false e = differ (is_eq (nat_cmp n m)) refl e ∙ sym e

-- nothing is held yet
pub none_held : (held : BTreeSet ℕ) (ns : List ℕ) → held.keys ≡ [] → are_new (contains nat_cmp held) ns ≡ are_distinct ns
none_held held ns none = ap (λ b. b && are_distinct ns) (all ns) where
  not_held : (m : ℕ) → not (contains nat_cmp held m) ≡ true
  not_held m = ap (λ ks. not (list_any (is_at (nat_cmp m)) ks)) none

  all : (ms : List ℕ) → list_all (λ m. not (contains nat_cmp held m)) ms ≡ true
  all [] = refl
  all (m ∷ ms) = ap (λ b. b && list_all (λ m. not (contains nat_cmp held m)) ms) (not_held m) ∙ all ms

module _ (held held' : ℕ → Bool) (n : ℕ) (updates : (m : ℕ) → held' m ≡ cond (is_eq (nat_cmp n m)) true (held m)) where
  one_more : (m : ℕ) (a b : Bool) → (m == n) ≡ a → held m ≡ b → not (held' m) ≡ (not (m == n) && not (held m))
  one_more m true b is e = ap not (updates m ∙ ap (λ t. cond t true (held m)) (at_same n m ∙ is)) ∙ sym (ap (λ t. not t && not (held m)) is)
  one_more m false b is e = ap not (updates m ∙ ap (λ t. cond t true (held m)) (at_same n m ∙ is)) ∙ sym (ap (λ t. not t && not (held m)) is)

  turned : (a b c d : Bool) → ((a && b) && (c && d)) ≡ ((a && c) && (b && d))
  turned true true c d = refl
  turned true false true d = refl
  turned true false false d = refl
  turned false b c d = refl

  both : (ms : List ℕ) → list_all (λ m. not (held' m)) ms ≡ (list_all (λ m. not (m == n)) ms && list_all (λ m. not (held m)) ms)
  both [] = refl
  both (m ∷ ms) =
      ap (λ b. b && list_all (λ m. not (held' m)) ms) (one_more m (m == n) (held m) refl refl)
      ∙ (ap (λ b. (not (m == n) && not (held m)) && b) (both ms)
      ∙ turned (not (m == n)) (not (held m)) (list_all (λ m. not (m == n)) ms) (list_all (λ m. not (held m)) ms))

  grouped : (a b c : Bool) → ((a && b) && c) ≡ (b && (a && c))
  grouped true true c = refl
  grouped true false c = refl
  grouped false true c = refl
  grouped false false c = refl

  -- the first one is held now, and wasn't
  pub one_kept : (ns : List ℕ) → held n ≡ false → are_new held' ns ≡ are_new held (n ∷ ns)
  one_kept ns new =
      ap (λ b. b && are_distinct ns) (both ns)
      ∙ (grouped (list_all (λ m. not (m == n)) ns) (list_all (λ m. not (held m)) ns) (are_distinct ns)
      ∙ sym (ap (λ b. (not b && list_all (λ m. not (held m)) ns) && are_distinct (n ∷ ns)) new))

pub not_true : (b : Bool) → not b ≡ true → b ≡ false
not_true true e = sym e
not_true false e = refl
