-- The index of the marks, once a number is added to it.
use Rattle.std.proofs.Common.{◌≡◌, ◌==◌, ℕ, List, [], ◌∷◌, Bool, true, false, ◌||◌, cond, Ordering, Equal, is_eq, refl, sym, ap, ◌∙◌}
use Rattle.std.specs.Cmp.{nat_cmp_is}
use Rattle.std.specs.FinMap.{nat_cmp-IsAntisymmetric}
use Rattle.std.specs.Ordering.{nat_cmp}
use Rattle.std.proofs.lemmas.Bool.{eqb-true, eqb-false}
use Rattle.um_fates.specs.Live.{has}

at_same : (n m : ℕ) → is_eq (nat_cmp n m) ≡ (n == m)
at_same n m = by (n == m) refl where
  equal : (r : Ordering) → is_eq r ≡ true → r ≡ Equal
  equal Equal e = refl
  equal Ordering.Less e = absurd cc
  equal Ordering.Greater e = absurd cc

  differ : (b : Bool) → is_eq (nat_cmp n m) ≡ b → (n == m) ≡ false → is_eq (nat_cmp n m) ≡ false
  differ false is e = is
  differ true is e = absurd (eqb-false n m e (nat_cmp-IsAntisymmetric n m (equal _ is)))

  by : (b : Bool) → (n == m) ≡ b → is_eq (nat_cmp n m) ≡ (n == m)
  by true e = ap is_eq (sym (nat_cmp_is n m Equal (eqb-true n m e))) ∙ sym e
  by false e = differ (is_eq (nat_cmp n m)) refl e ∙ sym e

or_cond : (b x : Bool) → cond b true x ≡ (x || (b || false))
or_cond true true = refl
or_cond true false = refl
or_cond false true = refl
or_cond false false = refl

pub entered : (old new : ℕ → Bool) (k : ℕ) → ((n : ℕ) → new n ≡ cond (is_eq (nat_cmp k n)) true (old n)) → (n : ℕ) → new n ≡ (old n || has n (k ∷ []))
entered old new k updates n = updates n ∙ (ap (λ b. cond b true (old n)) (at_same k n) ∙ or_cond (k == n) (old n))
