-- A tree map whose keys are seen as texts, as unit names are, beside the finite map that it stands for; and a copy of one.
use Rattle.std.proofs.Common.{ℕ, ◌≡◌, ◌∙◌, Bool, true, false, cond, List, [], ◌∷◌, Option, Some, None, refl, sym, ap, subst, T, Less, is_eq}
use Rattle.std.specs.List.{AllByRecursion}
use Rattle.std.specs.List.Sorted.{IsStrictlySortedBy}
use Rattle.std.specs.Map.{keys_of}
use Rattle.std.proofs.lemmas.Map.Views.{tells_apart}
use Rattle.std.proofs.lemmas.Map.Lookups.{exact_bytes}
use Rattle.std.specs.BTreeMap as tree
use Rattle.std.specs.BTreeMap.{BTreeMap, is_at}
use Rattle.std.specs.FinMap as map
use Rattle.std.specs.FinMap.{slice_cmp-IsAntisymmetric, nat_cmp-IsAntisymmetric}
use Rattle.std.specs.Cmp.Lexicographic.{slice_cmp, nat_list_cmp_total}
use Rattle.std.specs.Cmp.{eq_by_cmp_equiv}
use Rattle.std.specs.Ordering.{nat_cmp, eq_by_cmp, is_lt}
use Rattle.std.specs.Map.{lookup}
use Rattle.std.specs.FinMap.Entries.{below_all}
use Rattle.um_model.proofs.BytesLaws.{both_hold}

module _ {X : Type 0} where
  abbrev pub seen : BTreeMap (List ℕ) X → map.FinMap (slice_cmp nat_cmp) X
  seen m = map.from_entries m.entries

  find_lookup : (q : List ℕ) (es : List (List ℕ × X)) → map.find (slice_cmp nat_cmp) q es ≡ lookup (is_at (slice_cmp nat_cmp q)) es
  find_lookup q [] = refl
  find_lookup q (e ∷ es) = ap (cond (eq_by_cmp (slice_cmp nat_cmp) q e.0) (Some e.1)) (find_lookup q es)

  -- the value at a text
  pub get_seen : (m : BTreeMap (List ℕ) X) (q : List ℕ) → map.get (seen m) q ≡ tree.get (slice_cmp nat_cmp) m q
  get_seen m q = map.get-from_entries nat_list_cmp_total m.entries q ∙ find_lookup q m.entries

  updated : (m n : BTreeMap (List ℕ) X) (k : List ℕ) (w : Option X) → tree.Updates (slice_cmp nat_cmp) m n k w → (q : List ℕ) → map.get (seen n) q ≡ cond (eq_by_cmp (slice_cmp nat_cmp) q k) w (map.get (seen m) q)
  updated m n k w u q =
      get_seen n q ∙ (u.0 q ∙ (ap (λ b. cond b w (tree.get (slice_cmp nat_cmp) m q)) ((eq_by_cmp_equiv nat_list_cmp_total).symm k q) ∙ ap (cond (eq_by_cmp (slice_cmp nat_cmp) q k) w) (sym (get_seen m q))))

  -- after a value is put in
  pub seen_inserted : (m n : BTreeMap (List ℕ) X) (k : List ℕ) (v : X) → tree.Updates (slice_cmp nat_cmp) m n k (Some v) → seen n ≡ map.insert (seen m) k v
  seen_inserted m n k v u =
      map.same_map nat_list_cmp_total (slice_cmp-IsAntisymmetric nat_cmp-IsAntisymmetric) _ _ (λ q. updated m n k (Some v) u q ∙ sym (map.get-insert nat_list_cmp_total (seen m) k v q))

  -- after a value is taken out
  pub seen_removed : (m n : BTreeMap (List ℕ) X) (k : List ℕ) → tree.Updates (slice_cmp nat_cmp) m n k None → seen n ≡ map.remove (seen m) k
  seen_removed m n k u =
      map.same_map nat_list_cmp_total (slice_cmp-IsAntisymmetric nat_cmp-IsAntisymmetric) _ _ (λ q. updated m n k None u q ∙ sym (map.get-remove nat_list_cmp_total (seen m) k q))

  -- without an entry
  pub seen_nothing : (m : BTreeMap (List ℕ) X) → m.entries ≡ [] → seen m ≡ map.empty
  seen_nothing m e =
      map.same_map nat_list_cmp_total (slice_cmp-IsAntisymmetric nat_cmp-IsAntisymmetric) _ _ (λ q. get_seen m q ∙ (ap (lookup (is_at (slice_cmp nat_cmp q))) e ∙ sym (map.get-empty (slice_cmp nat_cmp) q)))

  -- a map with these entries put in, one after another
  abbrev pub insert_all : map.FinMap (slice_cmp nat_cmp) X → List (List ℕ × X) → map.FinMap (slice_cmp nat_cmp) X
  insert_all m [] = m
  insert_all m (e ∷ es) = insert_all (map.insert m e.0 e.1) es

  abbrev or_else : Option X → Option X → Option X
  or_else None o = o
  or_else (Some x) o = Some x

  put_first : (b : Bool) (f : Option X) (v : X) (g : Option X) → (b ≡ true → f ≡ None) → or_else f (cond b (Some v) g) ≡ or_else (cond b (Some v) f) g
  put_first true f v g h = ap (λ o. or_else o (Some v)) (h refl)
  put_first false f v g h = refl

  absent : (n q : List ℕ) (es : List (List ℕ × X)) → n ≡ q → AllByRecursion (λ y. slice_cmp nat_cmp n y ≡ Less) (keys_of es) → map.find (slice_cmp nat_cmp) q es ≡ None
  absent n q [] e a = refl
  absent n q (x ∷ es) e a =
      let other : eq_by_cmp (slice_cmp nat_cmp) q x.0 ≡ false = ap (λ m. is_eq (slice_cmp nat_cmp m x.0)) (sym e) ∙ ap is_eq a.0 in
      ap (λ b. cond b (Some x.1) (map.find (slice_cmp nat_cmp) q es)) other ∙ absent n q es e a.1

  get-insert_all : (m : map.FinMap (slice_cmp nat_cmp) X) (es : List (List ℕ × X)) (q : List ℕ) → IsStrictlySortedBy (slice_cmp nat_cmp) (keys_of es) → map.get (insert_all m es) q ≡ or_else (map.find (slice_cmp nat_cmp) q es) (map.get m q)
  unfolding IsStrictlySortedBy
  get-insert_all m [] q s = refl
  get-insert_all m (e ∷ es) q s =
      get-insert_all (map.insert m e.0 e.1) es q s.1
      ∙ (ap (or_else (map.find (slice_cmp nat_cmp) q es)) (map.get-insert nat_list_cmp_total m e.0 e.1 q)
      ∙ put_first (eq_by_cmp (slice_cmp nat_cmp) q e.0) (map.find (slice_cmp nat_cmp) q es) e.1 (map.get m q)
      (λ t. absent e.0 q es (sym (tells_apart exact_bytes q e.0 t)) s.0))

  below_here : (k : List ℕ) (es : List (List ℕ × X)) → AllByRecursion (λ y. slice_cmp nat_cmp k y ≡ Less) (keys_of es) → T (below_all (slice_cmp nat_cmp) k es)
  below_here k [] h = tt
  below_here k (e ∷ es) h = both_hold _ _ (subst (λ r. T (is_lt r)) (sym h.0) tt) (below_here k es h.1)

  sorted_here : (es : List (List ℕ × X)) → IsStrictlySortedBy (slice_cmp nat_cmp) (keys_of es) → T (map.is_sorted (slice_cmp nat_cmp) es)
  unfolding IsStrictlySortedBy
  sorted_here [] h = tt
  sorted_here (e ∷ es) h = both_hold _ _ (below_here e.0 es h.0) (sorted_here es h.1)

  -- the entries of the finite map are those of the tree map
  pub entries_kept : (m : BTreeMap (List ℕ) X) → tree.IsOrdered (slice_cmp nat_cmp) m → map.entries (seen m) ≡ m.entries
  entries_kept m o =
      let sorted = sorted_here m.entries o in
      ap map.entries (map.same_map nat_list_cmp_total (slice_cmp-IsAntisymmetric nat_cmp-IsAntisymmetric) _ _
      (λ q. map.get-from_entries nat_list_cmp_total m.entries q ∙ sym (map.get-from_sorted (slice_cmp nat_cmp) m.entries q sorted)))
      ∙ map.entries-from_sorted (slice_cmp nat_cmp) m.entries sorted

-- all names of these come after this one
abbrev pub After : {X : Type 0} → List ℕ → List (List ℕ × X) → Type 0
After n [] = Unit {0}
After n (e ∷ es) = (slice_cmp nat_cmp n e.0 ≡ Less) × After n es

-- the names ascend
abbrev pub Rising : {X : Type 0} → List (List ℕ × X) → Type 0
Rising [] = Unit {0}
Rising (e ∷ es) = After e.0 es × Rising es

after : {X : Type 0} (n : List ℕ) (es : List (List ℕ × X)) → AllByRecursion (λ y. slice_cmp nat_cmp n y ≡ Less) (keys_of es) → After n es
after n [] a = tt
after n (e ∷ es) a = (a.0, after n es a.1)

pub rising : {X : Type 0} (es : List (List ℕ × X)) → IsStrictlySortedBy (slice_cmp nat_cmp) (keys_of es) → Rising es
unfolding IsStrictlySortedBy
rising [] s = tt
rising (e ∷ es) s = (after e.0 es s.0, rising es s.1)
