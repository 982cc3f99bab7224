-- The contents of a finite map are just its entries.
use Rattle.std.proofs.Common.{◌≡◌, ◌∙◌, ℕ, Bool, true, false, cond, List, [], ◌∷◌, Contains, Some, Equal, Less, Greater, Ordering, T, ◌&&◌, arith, refl, sym, ap, inl, inr, is_eq}
use Rattle.std.specs.Cmp.{eq_by_cmp_equiv}
use Rattle.std.specs.Cmp.Lexicographic.{slice_cmp, nat_list_cmp_total}
use Rattle.std.specs.FinMap as map
use Rattle.std.specs.FinMap.Entries.{below_all}
use Rattle.std.specs.Ordering.{eq_by_cmp, is_lt, nat_cmp}
use Rattle.std.proofs.lemmas.Map.Lookups.{exact_bytes}
use Rattle.std.proofs.lemmas.Map.Views.{tells_apart}
use Rattle.um_graph.proofs.ListLaws.{cons_in, in_cons, in_none}

abbrev cmp : List ℕ → List ℕ → Ordering
cmp = slice_cmp nat_cmp

T_true : (b : Bool) → T b → b ≡ true
T_true true h = refl
T_true false h = absurd h

first_of : (a b : Bool) → T (a && b) → T a
first_of true b h = tt
first_of false b h = absurd h

second_of : (a b : Bool) → T (a && b) → T b
second_of true b h = h
second_of false b h = absurd h

not_equal : (o : Ordering) → is_lt o ≡ true → is_eq o ≡ false
not_equal Less h = refl
not_equal Equal h = cc
not_equal Greater h = cc

module _ {X : Type 0} where
  pair_is : (e : List ℕ × X) (q : List ℕ) (v : X) → e.0 ≡ q → e.1 ≡ v → e ≡ (q, v)
  pair_is e q v a b = λ i. (a i, b i)

  found_in : (es : List (List ℕ × X)) (q : List ℕ) (v : X) → map.find cmp q es ≡ Some v → Contains es (q, v)
  found_in [] q v h = cc
  found_in (e ∷ es) q v h = by (eq_by_cmp cmp q e.0) refl (found_in es q v) h
    where
      by : (b : Bool) → eq_by_cmp cmp q e.0 ≡ b → (map.find cmp q es ≡ Some v → Contains es (q, v)) → cond b (Some e.1) (map.find cmp q es) ≡ Some v → Contains (e ∷ es) (q, v)
      by true t rest h = let same : e.1 ≡ v = cc in (0, omega arith, pair_is e q v (sym (tells_apart exact_bytes q e.0 t)) same)
      by false t rest h = cons_in e es (q, v) (rest h)

  below : (k : List ℕ) (es : List (List ℕ × X)) (q : List ℕ) (v : X) → T (below_all cmp k es) → Contains es (q, v) → is_lt (cmp k q) ≡ true
  below k [] q v h c = absurd (in_none (q, v) c)
  below k (e ∷ es) q v h c = elim (in_cons e es (q, v) c) as (λ _. is_lt (cmp k q) ≡ true) [
    | inl s ↦ ap (λ (z : List ℕ × X). is_lt (cmp k z.0)) (sym s) ∙ T_true (is_lt (cmp k e.0)) (first_of _ _ h)
    | inr d ↦ below k es q v (second_of _ _ h) d
  ]

  in_found : (es : List (List ℕ × X)) (q : List ℕ) (v : X) → T (map.is_sorted cmp es) → Contains es (q, v) → map.find cmp q es ≡ Some v
  in_found [] q v h c = absurd (in_none (q, v) c)
  in_found (e ∷ es) q v h c = elim (in_cons e es (q, v) c) as (λ _. cond (eq_by_cmp cmp q e.0) (Some e.1) (map.find cmp q es) ≡ Some v) [
    | inl s ↦ ap (λ b. cond b (Some e.1) (map.find cmp q es)) (ap (eq_by_cmp cmp q) (ap (λ (e : List ℕ × X). e.0) s) ∙ (eq_by_cmp_equiv nat_list_cmp_total).refl q) ∙ ap Some (ap (λ (e : List ℕ × X). e.1) s)
    | inr d ↦
        let other : eq_by_cmp cmp q e.0 ≡ false = (eq_by_cmp_equiv nat_list_cmp_total).symm q e.0 ∙ not_equal (cmp e.0 q) (below e.0 es q v (first_of _ _ h) d) in
        ap (λ b. cond b (Some e.1) (map.find cmp q es)) other ∙ in_found es q v (second_of _ _ h) d
  ]

  pub entry_held : (m : map.FinMap cmp X) (q : List ℕ) (v : X) → Contains (map.entries m) (q, v) → map.get m q ≡ Some v
  entry_held m q v c = map.get-entries m q ∙ in_found (map.entries m) q v (map.entries_sorted m) c

  pub held_entry : (m : map.FinMap cmp X) (q : List ℕ) (v : X) → map.get m q ≡ Some v → Contains (map.entries m) (q, v)
  held_entry m q v h = found_in (map.entries m) q v (sym (map.get-entries m q) ∙ h)
