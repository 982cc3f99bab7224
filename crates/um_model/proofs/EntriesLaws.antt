-- A property of each entry of a map by texts is one of each of its values, and back; and where an entry is put.
use Rattle.std.proofs.Common.{◌≡◌, ℕ, Bool, true, false, cond, ◌&&◌, List, [], ◌∷◌, Some, None, refl, sym, ap, ◌∙◌, T, is_eq}
use Rattle.std.specs.List.{list_all}
use Rattle.std.specs.Ordering.{nat_cmp, eq_by_cmp}
use Rattle.std.specs.Cmp.{tied_itself}
use Rattle.std.specs.Cmp.Lexicographic.{slice_cmp, nat_list_cmp_total}
use Rattle.std.specs.FinMap as map
use Rattle.std.specs.FinMap.Entries.{below_all, put, find, by_order}
use Rattle.std.proofs.lemmas.Map.Lookups.{exact_bytes}
use Rattle.std.proofs.lemmas.Map.Views.{tells_apart}
use Rattle.um_model.specs.Bytes.{ByText}
use Rattle.um_model.proofs.BytesLaws.{some_is, none_some, left_holds, right_holds, lower}

pub both_true : (a b : Bool) → a ≡ true → b ≡ true → (a && b) ≡ true
both_true true b p q = q
both_true false b p q = p

pub left_true : (a b : Bool) → (a && b) ≡ true → a ≡ true
left_true true b e = refl
left_true false b e = e

pub right_true : (a b : Bool) → (a && b) ≡ true → b ≡ true
right_true true b e = e
right_true false b e = absurd cc

module _ {X : Type 0} where
  -- a text below all keys is none of them
  pub below_none : (k : List ℕ) (es : List (List ℕ × X)) → T (below_all (slice_cmp nat_cmp) k es) → find (slice_cmp nat_cmp) k es ≡ None
  below_none k [] h = refl
  below_none k (e ∷ es) h = ap (λ r. cond (is_eq r) (Some e.1) (find (slice_cmp nat_cmp) k es)) (lower _ (left_holds _ _ h)) ∙ below_none k es (right_holds _ _ h)

  -- it is put in front
  pub below_put : (k : List ℕ) (v : X) (es : List (List ℕ × X)) → T (below_all (slice_cmp nat_cmp) k es) → put (slice_cmp nat_cmp) k v es ≡ (k, v) ∷ es
  below_put k v [] h = refl
  below_put k v (e ∷ es) h = ap (λ r. by_order r ((k, v) ∷ e ∷ es) ((e.0, v) ∷ es) (e ∷ put (slice_cmp nat_cmp) k v es)) (lower _ (left_holds _ _ h))

  all_found : (test : List ℕ × X → Bool) (es : List (List ℕ × X)) → list_all test es ≡ true → (k : List ℕ) (v : X) → find (slice_cmp nat_cmp) k es ≡ Some v → test (k, v) ≡ true
  all_found test [] all k v is = absurd (none_some v is)
  all_found test (e ∷ es) all k v is = by (all_found test es (right_true (test e) (list_all test es) all) k v) (eq_by_cmp (slice_cmp nat_cmp) k e.0) refl is
    where
      by : (find (slice_cmp nat_cmp) k es ≡ Some v → test (k, v) ≡ true) → (b : Bool) → eq_by_cmp (slice_cmp nat_cmp) k e.0 ≡ b → cond b (Some e.1) (find (slice_cmp nat_cmp) k es) ≡ Some v → test (k, v) ≡ true
      by later true t i = ap (λ (l : List ℕ). test (l, v)) (tells_apart exact_bytes k e.0 t) ∙ (ap (λ (w : X). test (e.0, w)) (sym (some_is e.1 v i)) ∙ left_true (test e) (list_all test es) all)
      by later false t i = later i

  found_all : (test : List ℕ × X → Bool) (es : List (List ℕ × X)) → T (map.is_sorted (slice_cmp nat_cmp) es) → ((k : List ℕ) (v : X) → find (slice_cmp nat_cmp) k es ≡ Some v → test (k, v) ≡ true)
      → list_all test es ≡ true
  found_all test [] sorted each = refl
  found_all test (e ∷ es) sorted each =
      both_true (test e) (list_all test es) (each e.0 e.1 (ap (λ r. cond (is_eq r) (Some e.1) (find (slice_cmp nat_cmp) e.0 es)) (tied_itself nat_list_cmp_total e.0)))
      (found_all test es (right_holds _ _ sorted) (λ k v is. each k v (ap (λ b. cond b (Some e.1) (find (slice_cmp nat_cmp) k es)) (apart k v is (eq_by_cmp (slice_cmp nat_cmp) k e.0) refl) ∙ is)))
    where
      apart : (k : List ℕ) (v : X) → find (slice_cmp nat_cmp) k es ≡ Some v → (b : Bool) → eq_by_cmp (slice_cmp nat_cmp) k e.0 ≡ b → eq_by_cmp (slice_cmp nat_cmp) k e.0 ≡ false
      apart k v is true t =
          absurd (none_some v (sym (below_none e.0 es (left_holds _ _ sorted)) ∙ (ap (λ (l : List ℕ). find (slice_cmp nat_cmp) l es) (sym (tells_apart exact_bytes k e.0 t)) ∙ is)))
      apart k v is false t = t

  -- if each entry passes a test, the value at a text passes it with that text
  pub at_each : (test : List ℕ × X → Bool) (m : ByText X) → list_all test (map.entries m) ≡ true → (k : List ℕ) (v : X) → map.get m k ≡ Some v → test (k, v) ≡ true
  at_each test m all k v is = all_found test (map.entries m) all k v (sym (map.get-entries m k) ∙ is)

  pub from_each : (test : List ℕ × X → Bool) (m : ByText X) → ((k : List ℕ) (v : X) → map.get m k ≡ Some v → test (k, v) ≡ true) → list_all test (map.entries m) ≡ true
  from_each test m each = found_all test (map.entries m) (map.entries_sorted m) (λ k v is. each k v (map.get-entries m k ∙ is))
