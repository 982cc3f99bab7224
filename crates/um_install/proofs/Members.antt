-- The elements of lists, filters and finite maps by texts.
use Rattle.std.proofs.Common.{ℕ, zero, suc, ◌≡◌, ◌⊎◌, ◌∙◌, ◌<◌, Bool, true, false, cond, T, is_eq, is_lt, List, [], ◌∷◌, map as each, length, filter, Contains, get_or, Option, Some, None, is_some, option_map, String, Global, string_bytes, string_cmp, Less, Equal, Greater, refl, sym, ap, subst, arith, inl, inr}
use Rattle.std.specs.Cmp.{eq_by_cmp_equiv}
use Rattle.std.specs.Cmp.Lexicographic.{slice_cmp, nat_list_cmp_total}
use Rattle.std.specs.FinMap as map
use Rattle.std.specs.FinMap.Entries.{below_all}
use Rattle.std.specs.List.{cons_option, filter_map, flat_map}
use Rattle.std.specs.Ordering.{nat_cmp, eq_by_cmp}
use Rattle.std.specs.declared.cmp.Ordering.{Ordering}
use Rattle.std.specs.Map.{values_of}
use Rattle.std.proofs.lemmas.Cmp.{tied_itself}
use Rattle.std.proofs.lemmas.List.Elements.{Contains-append_left, Contains-append_right, Contains-append_cases}
use Rattle.std.proofs.lemmas.Map.Lookups.{exact_bytes}
use Rattle.std.proofs.lemmas.Map.Views.{tells_apart}
use Rattle.std.proofs.lemmas.Option.{same_Some, none-some}
use Rattle.std.specs.BTreeMap as tree
use Rattle.std.specs.BTreeMap.{BTreeMap}
use Rattle.um_model.proofs.BytesLaws.{left_holds, right_holds}
use Rattle.um_laws.proofs.NameMaps.{After, Rising}
use Rattle.um_tree.proofs.TextMaps.{entries-map_of, get-map_of, map_of, map_of_inserted, text_and_value}

-- ---- lists

pub contains_later : {A : Type 0} (z : A) (xs : List A) (x : A) → Contains xs x → Contains (z ∷ xs) x
contains_later z xs x c = (suc c.0, omega (arith, c.1), c.2)

pub contains_flat : {A B : Type 0} (f : A → List B) (xs : List A) (x : A) (y : B) → Contains xs x → Contains (f x) y → Contains (flat_map f xs) y
contains_flat f [] x y (k, h, e) c = absurd (omega arith)
contains_flat f (z ∷ xs) x y (zero, h, e) c = Contains-append_left (f z) (flat_map f xs) y (subst (λ w. Contains (f w) y) (sym e) c)
contains_flat f (z ∷ xs) x y (suc k, h, e) c = Contains-append_right (f z) (flat_map f xs) y (contains_flat f xs x y (k, omega arith, e) c)

pub flat_contains : {A B : Type 0} (f : A → List B) (xs : List A) (y : B) → Contains (flat_map f xs) y → (x : A) × Contains xs x × Contains (f x) y
flat_contains f [] y (k, h, e) = absurd (omega arith)
flat_contains f (z ∷ xs) y c = elim (Contains-append_cases (f z) (flat_map f xs) y c) [
  | inl a ↦ (z, (0, omega arith, refl), a)
  | inr b ↦ let r = flat_contains f xs y b in (r.0, (suc r.1.0, omega (arith, r.1.1), r.1.2), r.2)
]

pub contains_each : {A B : Type 0} (f : A → B) (xs : List A) (x : A) → Contains xs x → Contains (each f xs) (f x)
contains_each f [] x (k, h, e) = absurd (omega arith)
contains_each f (z ∷ xs) x (zero, h, e) = (0, omega arith, ap f e)
contains_each f (z ∷ xs) x (suc k, h, e) = contains_later (f z) (each f xs) (f x) (contains_each f xs x (k, omega arith, e))

pub each_contains : {A B : Type 0} (f : A → B) (xs : List A) (y : B) → Contains (each f xs) y → (x : A) × Contains xs x × (f x ≡ y)
each_contains f [] y (k, h, e) = absurd (omega arith)
each_contains f (z ∷ xs) y (zero, h, e) = (z, (0, omega arith, refl), e)
each_contains f (z ∷ xs) y (suc k, h, e) = let r = each_contains f xs y (k, omega arith, e) in (r.0, contains_later z xs r.0 r.1, r.2)

consed : {Y : Type 0} (o : Option Y) (ys : List Y) (y : Y) → Contains (cons_option o ys) y → (o ≡ Some y) ⊎ Contains ys y
consed None ys y c = inr c
consed (Some z) ys y (zero, h, e) = inl (ap Some e)
consed (Some z) ys y (suc k, h, e) = inr (k, omega arith, e)

pub filter_map_contains : {X Y : Type 0} (f : X → Option Y) (xs : List X) (y : Y) → Contains (filter_map f xs) y → (x : X) × Contains xs x × (f x ≡ Some y)
filter_map_contains f [] y (k, h, e) = absurd (omega arith)
filter_map_contains {X = X} f (x ∷ xs) y c = elim (consed (f x) (filter_map f xs) y c) as (λ _. (z : X) × Contains (x ∷ xs) z × (f z ≡ Some y)) [
  | inl e ↦ (x, (0, omega arith, refl), e)
  | inr d ↦ let r = filter_map_contains f xs y d in (r.0, contains_later x xs r.0 r.1, r.2)
]

module _ {A : Type 0} (p : A → Bool) where
  kept : (b : Bool) (z x : A) (xs : List A) → Contains xs x → Contains (cond b (z ∷ xs) xs) x
  kept true z x xs c = contains_later z xs x c
  kept false z x xs c = c

  kept_first : (b : Bool) (z : A) (xs : List A) → b ≡ true → Contains (cond b (z ∷ xs) xs) z
  kept_first true z xs e = (0, omega arith, refl)
  kept_first false z xs e = cc

  pub contains_filter : (xs : List A) (x : A) → Contains xs x → p x ≡ true → Contains (filter p xs) x
  contains_filter [] x (k, h, e) t = absurd (omega arith)
  contains_filter (z ∷ xs) x (zero, h, e) t = subst (λ w. Contains (filter p (z ∷ xs)) w) e (kept_first (p z) z (filter p xs) (ap p e ∙ t))
  contains_filter (z ∷ xs) x (suc k, h, e) t = kept (p z) z x (filter p xs) (contains_filter xs x (k, omega arith, e) t)

  filtered : (b : Bool) (z x : A) (xs : List A) → p z ≡ b → Contains (cond b (z ∷ xs) xs) x → Contains xs x ⊎ ((z ≡ x) × (p z ≡ true))
  filtered true z x xs t (zero, h, e) = inr (e, t)
  filtered true z x xs t (suc k, h, e) = inl (k, omega arith, e)
  filtered false z x xs t c = inl c

  pub filter_contains : (xs : List A) (x : A) → Contains (filter p xs) x → Contains xs x × (p x ≡ true)
  filter_contains [] x (k, h, e) = absurd (omega arith)
  filter_contains (z ∷ xs) x c = elim (filtered (p z) z x (filter p xs) refl c) as (λ _. Contains (z ∷ xs) x × (p x ≡ true)) [
    | inl later ↦ let r = filter_contains xs x later in (contains_later z xs x r.0, r.1)
    | inr here ↦ ((0, omega arith, here.0), ap p (sym here.0) ∙ here.1)
  ]

-- ---- maps by texts

less_is : (o : Ordering) → T (is_lt o) → o ≡ Less
less_is Less h = refl
less_is Equal h = absurd h
less_is Greater h = absurd h

module _ {X : Type 0} where
  below : (n : List ℕ) (es : List (List ℕ × X)) → T (below_all (slice_cmp nat_cmp) n es) → After n es
  below n [] h = tt
  below n (e ∷ es) h = (less_is (slice_cmp nat_cmp n e.0) (left_holds _ _ h), below n es (right_holds _ _ h))

  pub rising : (es : List (List ℕ × X)) → T (map.is_sorted (slice_cmp nat_cmp) es) → Rising es
  rising [] h = tt
  rising (e ∷ es) h = (below e.0 es (left_holds _ _ h), rising es (right_holds _ _ h))

  pub after_at : (n : List ℕ) (es : List (List ℕ × X)) → After n es → (k : ℕ) (e : List ℕ × X) → k < length es → get_or es k e ≡ e → slice_cmp nat_cmp n e.0 ≡ Less
  after_at n [] a k e h g = absurd (omega arith)
  after_at n (x ∷ es) a zero e h g = subst (λ y. slice_cmp nat_cmp n y.0 ≡ Less) g a.0
  after_at n (x ∷ es) a (suc k) e h g = after_at n es a.1 k e (omega arith) g

  pub there_find : (es : List (List ℕ × X)) → Rising es → (e : List ℕ × X) → Contains es e → map.find (slice_cmp nat_cmp) e.0 es ≡ Some e.1
  there_find [] r e (k, h, g) = absurd (omega arith)
  there_find (x ∷ es) r e (zero, h, g) =
      subst (λ (y : List ℕ × X). map.find (slice_cmp nat_cmp) y.0 (x ∷ es) ≡ Some y.1) g
      (ap (λ o. cond (is_eq o) (Some x.1) (map.find (slice_cmp nat_cmp) x.0 es)) (tied_itself nat_list_cmp_total x.0))
  there_find (x ∷ es) r e (suc k, h, g) =
      let less = after_at x.0 es r.0 k e (omega arith) g in
      let other : eq_by_cmp (slice_cmp nat_cmp) e.0 x.0 ≡ false = (eq_by_cmp_equiv nat_list_cmp_total).symm e.0 x.0 ∙ ap is_eq less in
      ap (λ b. cond b (Some x.1) (map.find (slice_cmp nat_cmp) e.0 es)) other ∙ there_find es r.1 e (k, omega arith, g)

  find_there : (q : List ℕ) (es : List (List ℕ × X)) (v : X) → map.find (slice_cmp nat_cmp) q es ≡ Some v → Contains es (q, v)
  find_there q [] v e = absurd (none-some v e)
  find_there q (x ∷ es) v e = elim (eq_by_cmp (slice_cmp nat_cmp) q x.0) as (λ b. eq_by_cmp (slice_cmp nat_cmp) q x.0 ≡ b → Contains (x ∷ es) (q, v)) [
    | true ↦ λ t.
        let name : x.0 ≡ q = sym (tells_apart exact_bytes q x.0 t) in
        let value : x.1 ≡ v = same_Some x.1 v (sym (ap (λ b. cond b (Some x.1) (map.find (slice_cmp nat_cmp) q es)) t) ∙ e) in
        (0, omega arith, λ i. (name i, value i))
    | false ↦ λ t. contains_later x es (q, v) (find_there q es v (sym (ap (λ b. cond b (Some x.1) (map.find (slice_cmp nat_cmp) q es)) t) ∙ e))
  ] refl

  pub get_there : (m : map.FinMap (slice_cmp nat_cmp) X) (q : List ℕ) (v : X) → map.get m q ≡ Some v → Contains (map.entries m) (q, v)
  get_there m q v e = find_there q (map.entries m) v (sym (map.get-entries m q) ∙ e)

  pub there_get : (m : map.FinMap (slice_cmp nat_cmp) X) (e : List ℕ × X) → Contains (map.entries m) e → map.get m e.0 ≡ Some e.1
  there_get m e c = map.get-entries m e.0 ∙ there_find (map.entries m) (rising (map.entries m) (map.entries_sorted m)) e c

is_some-map : {A B : Type 0} (f : A → B) (o : Option A) → is_some (option_map f o) ≡ is_some o
is_some-map f None = refl
is_some-map f (Some x) = refl

-- whether there is one at a text
pub contains_text : {V X : Type 0} (f : V → X) (m : BTreeMap (String Global) V) (q : List ℕ) → is_some (tree.get_by_text m q) ≡ map.contains_key (map_of f m.entries) q
contains_text f m q = sym (is_some-map f (tree.get_by_text m q)) ∙ sym (ap is_some (get-map_of f m q))

-- after one is put in
pub inserted : {V X : Type 0} (f : V → X) (m n : BTreeMap (String Global) V) (key q : List ℕ) (v : V) (x : X) → key ≡ q → f v ≡ x
    → tree.UpdatesBy string_cmp (λ k. slice_cmp nat_cmp key (string_bytes k)) m n (Some v) → map_of f n.entries ≡ map.insert (map_of f m.entries) q x
inserted f m n key q v x e g u = map_of_inserted f key m n v u ∙ (ap (λ k. map.insert (map_of f m.entries) k (f v)) e ∙ ap (map.insert (map_of f m.entries) q) g)

values_each : {V X : Type 0} (f : V → X) (es : List (String Global × V)) → each f (values_of es) ≡ each (λ e. e.1) (each (text_and_value f) es)
values_each f [] = refl
values_each f (e ∷ es) = ap (λ vs. f e.1 ∷ vs) (values_each f es)

keys_each : {V X : Type 0} (f : V → X) (es : List (String Global × V)) → each (λ e. string_bytes e.0) es ≡ each (λ e. e.0) (each (text_and_value f) es)
keys_each f [] = refl
keys_each f (e ∷ es) = ap (λ ks. string_bytes e.0 ∷ ks) (keys_each f es)

-- the values and the keys in ascending order of the keys
pub values_seen : {V X : Type 0} (f : V → X) (m : BTreeMap (String Global) V) → tree.IsOrdered string_cmp m → each f (tree.values m) ≡ map.values (map_of f m.entries)
values_seen f m ordered = values_each f m.entries ∙ ap (each (λ e. e.1)) (sym (entries-map_of f m ordered))

pub keys_seen : {V X : Type 0} (f : V → X) (m : BTreeMap (String Global) V) → tree.IsOrdered string_cmp m → each (λ e. string_bytes e.0) m.entries ≡ map.keys (map_of f m.entries)
keys_seen f m ordered = keys_each f m.entries ∙ ap (each (λ e. e.0)) (sym (entries-map_of f m ordered))
