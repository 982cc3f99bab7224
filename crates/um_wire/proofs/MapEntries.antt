-- The entries of a map in their order, beside the entries of the definitions.
use Rattle.std.proofs.Common.{◌≡◌, ℕ, suc, List, [], ◌∷◌, ◌++◌, length, Bool, true, false, cond, T, option_map, ◌<◌, ◌^◌, ◌&&◌, Ordering, Less, Greater, Option, Some, None, refl, sym, ap, subst, ◌∙◌, append_assoc}
use Rattle.std.specs.BTreeMap.{insert_entry}
use Rattle.std.specs.Cmp.{IsTotalOrder}
use Rattle.std.specs.Cmp.Lexicographic.{slice_cmp, nat_list_cmp_total}
use Rattle.std.specs.FinMap as map
use Rattle.std.specs.FinMap.{nat_cmp-IsAntisymmetric, slice_cmp-IsAntisymmetric}
use Rattle.std.specs.FinMap.Entries.{below_all}
use Rattle.std.specs.List.{AllByRecursion, flat_map}
use Rattle.std.proofs.lemmas.List.{append-nil}
use Rattle.std.specs.List.Sorted.{IsStrictlySortedBy}
use Rattle.std.specs.Map.{keys_of}
use Rattle.std.specs.Ordering.{is_lt, nat_cmp, ordering_reverse, match_ordering}
use Rattle.byteorder.specs.Endian.{big_bytes}
use Rattle.um_model.specs.Bytes.{Decoder, Spelling, ByText, FitList, FitMap, FitText, IsInFront, ascends, are_keys, list_at, map_at, map_spelling, pair_at, pair_spelling, text_at, text_spelling}
use Rattle.um_model.proofs.BytesLaws.{both_hold, guard_some, left_holds, lower, right_holds, some_is, sorted}
use Rattle.um_wire.specs.Entries.{seen}

abbrev some : {A : Type 0} → A → Option A
some x = Some x

-- the entries in the map and the remaining ones are all; a text that is no key can only be among the remaining ones
pub record IsMade {Y : Type 0} (is_key : List ℕ → Bool) (made left all : List (List ℕ × Y)) : Type 0 where
  pub parts : made ++ left ≡ all
  pub keys : are_keys is_key left ≡ are_keys is_key all

-- the entries put and the remaining ones are all; if the remaining ones fit, all do; a text that is no key can only
-- be among the remaining ones
pub record IsPut {Y : Type 0} (is_key : List ℕ → Bool) (fits : Y → Type 0) (one : Spelling Y) (left all : List (List ℕ × Y)) (start old out : List ℕ) : Type 0 where
  pub bytes : out ++ flat_map (pair_spelling text_spelling one) left ≡ start ++ flat_map (pair_spelling text_spelling one) all
  pub fit : AllByRecursion (λ e. FitText e.0 × fits e.1) left → AllByRecursion (λ e. FitText e.0 × fits e.1) all
  pub keys : are_keys is_key left ≡ are_keys is_key all
  pub front : IsInFront old out

-- the map of sorted entries, made by insertion or at once
pub from_entries-sorted : {Y : Type 0} (es : List (List ℕ × Y)) → T (map.is_sorted (slice_cmp nat_cmp) es) → map.from_entries {R = slice_cmp nat_cmp} es ≡ map.from_sorted es
from_entries-sorted es h =
    map.same_map nat_list_cmp_total (slice_cmp-IsAntisymmetric nat_cmp-IsAntisymmetric) _ _
    (λ q. map.get-from_entries nat_list_cmp_total es q ∙ sym (map.get-from_sorted (slice_cmp nat_cmp) es q h))

module _ {K X Y : Type 0} (text : K → List ℕ) (value : X → Y) (R : K → K → Ordering) (order : (a b : K) → R a b ≡ slice_cmp nat_cmp (text a) (text b)) where
  below_seen : (k : K) (es : List (K × X)) → AllByRecursion (λ y. R k y ≡ Less) (keys_of es) → T (below_all (slice_cmp nat_cmp) (text k) (seen text value es))
  below_seen k [] h = tt
  below_seen k (e ∷ es) h = both_hold _ _ (subst (λ r. T (is_lt r)) (sym h.0 ∙ order k e.0) tt) (below_seen k es h.1)

  sorted_seen : (es : List (K × X)) → IsStrictlySortedBy R (keys_of es) → T (map.is_sorted (slice_cmp nat_cmp) (seen text value es))
  unfolding IsStrictlySortedBy
  sorted_seen [] h = tt
  sorted_seen (e ∷ es) h = both_hold _ _ (below_seen e.0 es h.0) (sorted_seen es h.1)

  -- the entries of the map of the definitions, for a map in order
  pub entries_seen : (es : List (K × X)) → IsStrictlySortedBy R (keys_of es) → map.entries (map.from_entries {R = slice_cmp nat_cmp} (seen text value es)) ≡ seen text value es
  entries_seen es h =
      let s = sorted_seen es h in
      ap map.entries (from_entries-sorted (seen text value es) s) ∙ map.entries-from_sorted (slice_cmp nat_cmp) (seen text value es) s

  module _ (total : IsTotalOrder R) where
    below_last : (key : List ℕ) (k : K) (v : X) (es : List (K × X)) (more : List (List ℕ × Y)) → T (below_all (slice_cmp nat_cmp) key (seen text value es ++ (text k, value v) ∷ more)) → slice_cmp nat_cmp key (text k) ≡ Less
    below_last key k v [] more h = lower _ (left_holds _ _ h)
    below_last key k v (e ∷ es) more h = below_last key k v es more (right_holds _ _ h)

    turned : (a k : K) → slice_cmp nat_cmp (text a) (text k) ≡ Less → R k a ≡ Greater
    turned a k low = total.antisymm k a ∙ ap ordering_reverse (order a k ∙ low)

    inserted : (es : List (K × X)) (k : K) (v : X) (more : List (List ℕ × Y)) → T (map.is_sorted (slice_cmp nat_cmp) (seen text value es ++ (text k, value v) ∷ more)) → insert_entry R es k v ≡ es ++ (k, v) ∷ []
    inserted [] k v more h = refl
    inserted (e ∷ es) k v more h =
        let above : R k e.0 ≡ Greater = turned e.0 k (below_last (text e.0) k v es more (left_holds _ _ h)) in
        ap (λ r. match_ordering r ((k, v) ∷ e ∷ es) ((e.0, v) ∷ es) (e ∷ insert_entry R es k v)) above ∙ ap (λ t. e ∷ t) (inserted es k v more (right_holds _ _ h))

    seen_append : (es fs : List (K × X)) → seen text value (es ++ fs) ≡ seen text value es ++ seen text value fs
    seen_append [] fs = refl
    seen_append (e ∷ es) fs = ap (λ t. (text e.0, value e.1) ∷ t) (seen_append es fs)

    -- a key above all is put in: the entries, and those still to be put in
    pub put_last : (old new : List (K × X)) (k : K) (v : X) (more all : List (List ℕ × Y)) → T (ascends all) → seen text value old ++ (text k, value v) ∷ more ≡ all
        → new ≡ insert_entry R old k v → seen text value new ++ more ≡ all
    put_last old new k v more all up parts put =
        let in_order : T (map.is_sorted (slice_cmp nat_cmp) (seen text value old ++ (text k, value v) ∷ more)) = subst (λ l. T (map.is_sorted (slice_cmp nat_cmp) l)) (sym parts) (sorted all up) in
        ap (λ l. seen text value l ++ more) (put ∙ inserted old k v more in_order)
        ∙ (ap (λ l. l ++ more) (seen_append old ((k, v) ∷ [])) ∙ (append_assoc (seen text value old) ((text k, value v) ∷ []) more ∙ parts))

    -- one more of the remaining entries is put in
    pub made_more : (is_key : List ℕ → Bool) (old new : List (K × X)) (k : K) (v : X) (t : List ℕ) (left all : List (List ℕ × Y)) → ascends all ≡ true → is_key t ≡ true → text k ≡ t
        → new ≡ insert_entry R old k v → IsMade is_key (seen text value old) ((t, value v) ∷ left) all → IsMade is_key (seen text value new) left all
    made_more is_key old new k v t left all up keyed same put so_far = record {
      parts = put_last old new k v left all (subst T (sym up) tt) (ap (λ x. seen text value old ++ (x, value v) ∷ left) same ∙ so_far.parts) put;
      keys = sym (ap (λ b. b && are_keys is_key left) keyed) ∙ so_far.keys;
    }

  length_seen : (es : List (K × X)) → length (seen text value es) ≡ length es
  length_seen [] = refl
  length_seen (e ∷ es) = ap suc (length_seen es)

  -- the whole map is put
  pub all_put : (is_key : List ℕ → Bool) (fits : Y → Type 0) (one : Spelling Y) (es initial left : List (K × X)) (old out : List ℕ) → IsStrictlySortedBy R (keys_of es) → left ≡ [] → initial ≡ es
      → IsPut is_key fits one (seen text value left) (seen text value initial) (old ++ big_bytes 4 (length initial)) old out
      → out ≡ old ++ map_spelling one (map.from_entries (seen text value es))
  all_put is_key fits one es initial left old out s none all put =
      let items : ℕ → List (List ℕ × Y) → List ℕ = λ n l. old ++ (big_bytes 4 n ++ flat_map (pair_spelling text_spelling one) l) in
      let end : out ++ [] ≡ out ++ flat_map (pair_spelling text_spelling one) (seen text value left) = ap (λ l. out ++ flat_map (pair_spelling text_spelling one) (seen text value l)) (sym none) in
      sym (append-nil out) ∙ end ∙ put.bytes ∙ append_assoc old (big_bytes 4 (length initial)) (flat_map (pair_spelling text_spelling one) (seen text value initial))
      ∙ ap (λ l. items (length l) (seen text value l)) all ∙ ap (λ n. items n (seen text value es)) (sym (length_seen es)) ∙ ap (λ l. items (length l) l) (sym (entries_seen es s))

  -- and the map has a spelling
  pub all_fits : (is_key : List ℕ → Bool) (fits : Y → Type 0) (one : Spelling Y) (es initial left : List (K × X)) (start old out : List ℕ)
      → IsStrictlySortedBy R (keys_of es) → left ≡ [] → initial ≡ es → length es < 2 ^ 32
      → IsPut is_key fits one (seen text value left) (seen text value initial) start old out → FitMap is_key fits (map.from_entries (seen text value es))
  all_fits is_key fits one es initial left start old out s none all low put =
      let fit : AllByRecursion (λ e. FitText e.0 × fits e.1) (seen text value es) = subst (λ l. AllByRecursion (λ e. FitText e.0 × fits e.1) (seen text value l)) all (put.fit (subst (λ l. AllByRecursion (λ e. FitText e.0 × fits e.1) (seen text value l)) (sym none) tt)) in
      let keyed : are_keys is_key (seen text value es) ≡ true = ap (λ l. are_keys is_key (seen text value l)) (sym all) ∙ sym put.keys ∙ ap (λ l. are_keys is_key (seen text value l)) none in
      let few : length (seen text value es) < 2 ^ 32 = subst (λ (n : ℕ). n < 2 ^ 32) (sym (length_seen es)) low in
      subst (λ (l : List (List ℕ × Y)). FitList (λ e. FitText e.0 × fits e.1) l × (are_keys is_key l ≡ true)) (sym (entries_seen es s)) ((few, fit), keyed)

-- the text of a key
pub key_is : {K : Type 0} (text : K → List ℕ) (is_key : List ℕ → Bool) (t : List ℕ) (found : Option K) (k : K) → option_map text found ≡ cond (is_key t) (Some t) None → found ≡ Some k → (is_key t ≡ true) × (text k ≡ t)
key_is text is_key t found k h is =
    let told : some (text k) ≡ cond (is_key t) (Some t) None = sym (ap (option_map text) is) ∙ h in
    let both = guard_some (is_key t) (some t) (text k) (sym told) in
    (both.0, sym (some_is t (text k) both.1))

module _ {Y : Type 0} (one : Decoder Y) (is_key : List ℕ → Bool) (bytes : List ℕ) (es : List (List ℕ × Y)) (rest : List ℕ) where
  abbrev AreThere : Type 0
  AreThere = list_at (pair_at text_at one) bytes ≡ Some (es, rest)

  pub no_map : AreThere → ascends es ≡ false → map_at is_key one bytes ≡ None
  no_map read down = rw (read, down) refl

  pub map_here : AreThere → ascends es ≡ true → some true ≡ cond (are_keys is_key es) (Some true) None → map_at is_key one bytes ≡ Some (map.from_entries es, rest)
  map_here read up keyed =
      let keys : are_keys is_key es ≡ true = (guard_some (are_keys is_key es) (some true) true (sym keyed)).0 in
      rw (read, up, keys) (ap (λ (m : ByText Y). some (m, rest)) (sym (from_entries-sorted es (sorted es (subst T (sym up) tt)))))
