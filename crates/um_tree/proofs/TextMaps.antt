-- A `BTreeMap` with `String` keys beside the finite map of the definitions; `f` gives the value of the definitions
-- for each.
use Rattle.std.proofs.Common.{◌≡◌, ℕ, List, [], ◌∷◌, map as each, Option, Some, None, option_map, String, string_bytes, string_cmp, Bool, true, false, cond, ◌&&◌, T, is_eq, is_lt, Less, Equal, length, subst, refl, sym, ap, ◌∙◌}
use Rattle.std.specs.BTreeMap as tree
use Rattle.std.specs.BTreeMap.{BTreeMap, is_at}
use Rattle.std.specs.Cmp.{eq_by_cmp_equiv}
use Rattle.std.specs.Cmp.Lexicographic.{slice_cmp, nat_list_cmp_total}
use Rattle.std.specs.FinMap as map
use Rattle.std.specs.FinMap.{nat_cmp-IsAntisymmetric, slice_cmp-IsAntisymmetric}
use Rattle.std.specs.FinMap.Entries.{is_sorted, below_all, find-where_key}
use Rattle.std.specs.List.{AllZip, AllByRecursion, filter}
use Rattle.std.specs.List.Sorted.{IsStrictlySortedBy}
use Rattle.std.specs.Map.{lookup, keys_of}
use Rattle.std.specs.Ordering.{nat_cmp, eq_by_cmp}
use Rattle.std.specs.Str.{bytes_eq}
use Rattle.std.proofs.lemmas.List.{length-map}
use Rattle.std.proofs.lemmas.Map.Text.{btree_map_updates_text, is_eq-slice_cmp}

eq_flipped : (a q : List ℕ) → bytes_eq a q ≡ eq_by_cmp (slice_cmp nat_cmp) q a
eq_flipped a q = sym (is_eq-slice_cmp a q) ∙ (eq_by_cmp_equiv nat_list_cmp_total).symm a q

both_hold : (a b : Bool) → T a → T b → T (a && b)
both_hold true b p q = q
both_hold false b p q = p

picked : {V X : Type 0} (f : V → X) (b : Bool) (v : V) (o : Option X) (p : Option V) → o ≡ option_map f p → cond b (Some (f v)) o ≡ option_map f (cond b (Some v) p)
picked f true v o p e = refl
picked f false v o p e = e

option_map-cond : {V X : Type 0} (f : V → X) (b : Bool) (w o : Option V) → option_map f (cond b w o) ≡ cond b (option_map f w) (option_map f o)
option_map-cond f true w o = refl
option_map-cond f false w o = refl

from_sorted-from_entries : {X : Type 0} (es : List (List ℕ × X)) → T (is_sorted (slice_cmp nat_cmp) es) → map.from_entries {R = slice_cmp nat_cmp} es ≡ map.from_sorted es
from_sorted-from_entries es h =
    map.same_map nat_list_cmp_total (slice_cmp-IsAntisymmetric nat_cmp-IsAntisymmetric) _ _
    (λ q. map.get-from_entries nat_list_cmp_total es q ∙ sym (map.get-from_sorted (slice_cmp nat_cmp) es q h))

module _ {A V X : Type 0} (f : V → X) where
  abbrev pub text_and_value : String A × V → List ℕ × X
  text_and_value e = (string_bytes e.0, f e.1)

  abbrev pub map_of : List (String A × V) → map.FinMap (slice_cmp nat_cmp) X
  map_of es = map.from_entries (each text_and_value es)

  find_lookup : (q : List ℕ) (es : List (String A × V)) → map.find (slice_cmp nat_cmp) q (each text_and_value es) ≡ option_map f (lookup (is_at (λ k. slice_cmp nat_cmp q (string_bytes k))) es)
  find_lookup q [] = refl
  find_lookup q (e ∷ es) = picked f (is_eq (slice_cmp nat_cmp q (string_bytes e.0))) e.1 _ _ (find_lookup q es)

  -- the value at a text
  pub get-map_of : (m : BTreeMap (String A) V) (q : List ℕ) → map.get (map_of m.entries) q ≡ option_map f (tree.get_by_text m q)
  get-map_of m q = map.get-from_entries nat_list_cmp_total (each text_and_value m.entries) q ∙ find_lookup q m.entries

  updated : (bs : List ℕ) (m n : BTreeMap (String A) V) (w : Option V) → tree.UpdatesBy string_cmp (λ k. slice_cmp nat_cmp bs (string_bytes k)) m n w
      → (q : List ℕ) → map.get (map_of n.entries) q ≡ cond (eq_by_cmp (slice_cmp nat_cmp) q bs) (option_map f w) (map.get (map_of m.entries) q)
  updated bs m n w u q =
      get-map_of n q ∙ ap (option_map f) (btree_map_updates_text bs m n w u q ∙ ap (λ b. cond b w (tree.get_by_text m q)) (eq_flipped bs q))
      ∙ option_map-cond f (eq_by_cmp (slice_cmp nat_cmp) q bs) w (tree.get_by_text m q)
      ∙ ap (cond (eq_by_cmp (slice_cmp nat_cmp) q bs) (option_map f w)) (sym (get-map_of m q))

  -- after a value is put in
  pub map_of_inserted : (bs : List ℕ) (m n : BTreeMap (String A) V) (v : V) → tree.UpdatesBy string_cmp (λ k. slice_cmp nat_cmp bs (string_bytes k)) m n (Some v)
      → map_of n.entries ≡ map.insert (map_of m.entries) bs (f v)
  map_of_inserted bs m n v u =
      map.same_map nat_list_cmp_total (slice_cmp-IsAntisymmetric nat_cmp-IsAntisymmetric) _ _
      (λ q. updated bs m n (Some v) u q ∙ sym (map.get-insert nat_list_cmp_total (map_of m.entries) bs (f v) q))

  -- after a value is removed
  pub map_of_removed : (bs : List ℕ) (m n : BTreeMap (String A) V) → tree.UpdatesBy string_cmp (λ k. slice_cmp nat_cmp bs (string_bytes k)) m n None
      → map_of n.entries ≡ map.remove (map_of m.entries) bs
  map_of_removed bs m n u =
      map.same_map nat_list_cmp_total (slice_cmp-IsAntisymmetric nat_cmp-IsAntisymmetric) _ _
      (λ q. updated bs m n None u q ∙ sym (map.get-remove nat_list_cmp_total (map_of m.entries) bs q))

  pairs_same : (old new : List (String A × V)) → AllZip (λ p q. (string_bytes q.0 ≡ string_bytes p.0) × (f q.1 ≡ f p.1)) old new → each text_and_value new ≡ each text_and_value old
  pairs_same [] [] h = refl
  pairs_same [] (y ∷ ys) h = absurd h
  pairs_same (x ∷ xs) [] h = absurd h
  pairs_same (x ∷ xs) (y ∷ ys) h = rw (h.0.0, h.0.1) (ap (λ t. text_and_value x ∷ t) (pairs_same xs ys h.1))

  -- of a clone
  pub map_of_clone : (old new : List (String A × V)) → AllZip (λ p q. (string_bytes q.0 ≡ string_bytes p.0) × (f q.1 ≡ f p.1)) old new → map_of new ≡ map_of old
  map_of_clone old new h = ap map.from_entries (pairs_same old new h)

  below_texts : (k : String A) (es : List (String A × V)) → AllByRecursion (λ y. string_cmp k y ≡ Less) (keys_of es) → T (below_all (slice_cmp nat_cmp) (string_bytes k) (each text_and_value es))
  below_texts k [] h = tt
  below_texts k (e ∷ es) h = both_hold _ _ (subst (λ o. T (is_lt o)) (sym h.0) tt) (below_texts k es h.1)

  texts_sorted : (es : List (String A × V)) → IsStrictlySortedBy string_cmp (keys_of es) → T (is_sorted (slice_cmp nat_cmp) (each text_and_value es))
  unfolding IsStrictlySortedBy
  texts_sorted [] h = tt
  texts_sorted (e ∷ es) h = both_hold _ _ (below_texts e.0 es h.0) (texts_sorted es h.1)

  -- the entries in ascending order, and their number
  pub entries-map_of : (m : BTreeMap (String A) V) → tree.IsOrdered string_cmp m → map.entries (map_of m.entries) ≡ each text_and_value m.entries
  entries-map_of m h =
      let sorted = texts_sorted m.entries h in
      ap map.entries (from_sorted-from_entries (each text_and_value m.entries) sorted) ∙ map.entries-from_sorted (slice_cmp nat_cmp) (each text_and_value m.entries) sorted

  pub len-map_of : (m : BTreeMap (String A) V) → tree.IsOrdered string_cmp m → map.len (map_of m.entries) ≡ length m.entries
  len-map_of m h = map.len-entries (map_of m.entries) ∙ ap length (entries-map_of m h) ∙ length-map m.entries text_and_value

  each_kept : (b : Bool) (e : String A × V) (xs : List (String A × V)) (ys : List (List ℕ × X)) → each text_and_value xs ≡ ys → each text_and_value (cond b (e ∷ xs) xs) ≡ cond b (text_and_value e ∷ ys) ys
  each_kept true e xs ys h = ap (λ t. text_and_value e ∷ t) h
  each_kept false e xs ys h = h

  pub filter-each : (p : List ℕ → Bool) (es : List (String A × V)) → each text_and_value (filter (λ e. p (string_bytes e.0)) es) ≡ filter (λ e. p e.0) (each text_and_value es)
  filter-each p [] = refl
  filter-each p (e ∷ es) = each_kept (p (string_bytes e.0)) e _ _ (filter-each p es)

  -- after only the entries are kept whose texts pass a test
  pub map_of_filter : (p : List ℕ → Bool) (es : List (String A × V)) → map_of (filter (λ e. p (string_bytes e.0)) es) ≡ map.retain_keys (map_of es) p
  map_of_filter p es =
      let alike : (q x : List ℕ) → slice_cmp nat_cmp q x ≡ Equal → p x ≡ p q = λ q x e. ap p (sym (slice_cmp-IsAntisymmetric nat_cmp-IsAntisymmetric q x e)) in
      ap map.from_entries (filter-each p es)
      ∙ map.same_map nat_list_cmp_total (slice_cmp-IsAntisymmetric nat_cmp-IsAntisymmetric) _ _
      (λ q. map.get-from_entries nat_list_cmp_total _ q ∙ find-where_key (slice_cmp nat_cmp) p q (alike q) (each text_and_value es)
      ∙ ap (λ o. cond (p q) o None) (sym (map.get-from_entries nat_list_cmp_total (each text_and_value es) q)) ∙ sym (map.get-retain_keys (map_of es) p q (alike q)))
