-- Numbers of names in ascending order: the result of a search is the place of the name.
use Rattle.std.proofs.Common.{◌≡◌, ◌≢◌, ◌⊎◌, ◌<◌, ◌≤◌, ℕ, zero, suc, Bool, true, false, cond, List, [], ◌∷◌, length, get_or, AllPairs, Contains, MatchOption, Option, Some, None, option_map, slice_get, Result, Ok, Err, Less, Equal, Greater, Ordering, refl, sym, ap, ◌∙◌, subst, inl, inr, arith}
use Rattle.std.specs.Cmp.Lexicographic.{slice_cmp, nat_list_cmp_total}
use Rattle.std.specs.List.Sorted.{IsSearchInRange, IsBinarySearchResult, IsNonDecreasingBy}
use Rattle.std.specs.Ordering.{nat_cmp, ordering_index, ordering_reverse}
use Rattle.std.specs.Result.{result_ok}
use Rattle.std.specs.Str.{bytes_eq}
use Rattle.std.proofs.lemmas.List.{get_or-map, length-map}
use Rattle.std.proofs.lemmas.Map.Lookups.{exact_bytes}
use Rattle.std.proofs.lemmas.Option.{slice_get-get_or}
use Rattle.std.proofs.lemmas.Slice.Eq.{bytes_eq-Decides}
use Rattle.std.proofs.lemmas.Bool.{cases_eq, cases_lt}
use Rattle.um_model.specs.Least.{IsNamedBefore}
use Rattle.um_graph.specs.Edges.{names_of, number_in}
use Rattle.um_graph.specs.declared.units.Unit.{Unit}
use Rattle.um_graph.proofs.ListLaws.{in_cons}

abbrev cmp : List ℕ → List ℕ → Ordering
cmp = slice_cmp nat_cmp

pub not_before_itself : (a b : List ℕ) → IsNamedBefore a b → a ≡ b → ⊥
not_before_itself a b l e =
    let same : cmp a a ≡ Less = subst (λ y. cmp a y ≡ Less) (sym e) l in
    let turned : Less ≡ Greater = sym same ∙ (nat_list_cmp_total.antisymm a a ∙ ap ordering_reverse same) in
    cc

after_by : (a b : List ℕ) → cmp a b ≡ Less → cmp b a ≡ Greater
after_by a b l = nat_list_cmp_total.antisymm b a ∙ ap ordering_reverse l

-- ---- places and numbers
pub tail_sorted : (n : List ℕ) (ns : List (List ℕ)) → AllPairs IsNamedBefore (n ∷ ns) → AllPairs IsNamedBefore ns
tail_sorted n ns s i j d lt le = s (suc i) (suc j) d (omega arith) (omega arith)

place_in : (ns : List (List ℕ)) (i : ℕ) (x : List ℕ) → slice_get ns i ≡ Some x → (d : List ℕ) → (i < length ns) × (get_or ns i d ≡ x)
place_in [] i x e d = cc
place_in (n ∷ ns) zero x e d = (omega arith, cc)
place_in (n ∷ ns) (suc i) x e d = let r = place_in ns i x e d in (omega (arith, r.0), r.1)

pub number_of : (ns : List (List ℕ)) → AllPairs IsNamedBefore ns → (i : ℕ) (x : List ℕ) → slice_get ns i ≡ Some x → number_in ns x ≡ Some i
number_of [] s i x e = cc
number_of (n ∷ ns) s zero x e = let same : n ≡ x = cc in ap (λ b. cond b (Some 0) (option_map suc (number_in ns x))) ((bytes_eq-Decides n x).1 same)
number_of (n ∷ ns) s (suc i) x e = by (bytes_eq n x) refl (number_of ns (tail_sorted n ns s) i x e)
  where
    by : (b : Bool) → bytes_eq n x ≡ b → number_in ns x ≡ Some i → cond b (Some 0) (option_map suc (number_in ns x)) ≡ Some (suc i)
    by true t rest =
        let p = place_in ns i x e n in
        absurd (not_before_itself n (get_or ns i n) (s 0 (suc i) n (omega arith) (omega (arith, p.0))) ((bytes_eq-Decides n x).0 t ∙ sym p.1))
    by false t rest = ap (option_map suc) rest

pub number_found : (ns : List (List ℕ)) (x : List ℕ) (i : ℕ) → number_in ns x ≡ Some i → slice_get ns i ≡ Some x
number_found [] x i e = cc
number_found (n ∷ ns) x i e = by (bytes_eq n x) refl (number_in ns x) refl (number_found ns x) e
  where
    by : (b : Bool) → bytes_eq n x ≡ b → (o : Option ℕ) → number_in ns x ≡ o → ((j : ℕ) → number_in ns x ≡ Some j → slice_get ns j ≡ Some x)
        → cond b (Some 0) (option_map suc o) ≡ Some i → slice_get (n ∷ ns) i ≡ Some x
    by true t o f rest e = let first : 0 ≡ i = cc in subst (λ k. slice_get (n ∷ ns) k ≡ Some x) first (ap Some ((bytes_eq-Decides n x).0 t))
    by false t None f rest e = cc
    by false t (Some j) f rest e = let later : suc j ≡ i = cc in subst (λ k. slice_get (n ∷ ns) k ≡ Some x) later (rest j f)

pub number_missing : (ns : List (List ℕ)) (x : List ℕ) → number_in ns x ≡ None → Contains ns x → ⊥
number_missing [] x e (k, h, q) = omega arith
number_missing (n ∷ ns) x e c = by (bytes_eq n x) refl (number_in ns x) refl (number_missing ns x) e (in_cons n ns x c)
  where
    by : (b : Bool) → bytes_eq n x ≡ b → (o : Option ℕ) → number_in ns x ≡ o → (number_in ns x ≡ None → Contains ns x → ⊥)
        → cond b (Some 0) (option_map suc o) ≡ None → (n ≡ x) ⊎ Contains ns x → ⊥
    by true t o f rest e c = cc
    by false t (Some j) f rest e c = cc
    by false t None f rest e (inl q) = let yes = (bytes_eq-Decides n x).1 q in cc
    by false t None f rest e (inr q) = rest f q

pub numbered : (ns : List (List ℕ)) (x : List ℕ) (o : Option ℕ) → o ≡ number_in ns x → MatchOption o (¬ Contains ns x) (λ i. slice_get ns i ≡ Some x)
numbered ns x None e = number_missing ns x (sym e)
numbered ns x (Some i) e = number_found ns x i (sym e)

none_there : (units : List Unit) (x : List ℕ) → ((k : ℕ) (d : Unit) → k < length units → (get_or units k d).name ≢ x) → number_in (names_of units) x ≡ None
none_there [] x h = refl
none_there (u ∷ units) x h = by (bytes_eq u.name x) refl (none_there units x (λ k d lt. h (suc k) d (omega arith)))
  where
    by : (b : Bool) → bytes_eq u.name x ≡ b → number_in (names_of units) x ≡ None → cond b (Some 0) (option_map suc (number_in (names_of units) x)) ≡ None
    by true t rest = absurd (h 0 u (omega arith) ((bytes_eq-Decides u.name x).0 t))
    by false t rest = ap (option_map suc) rest

-- ---- a binary search
rises : (a b x : List ℕ) → cmp a b ≡ Less → ordering_index (cmp a x) ≤ ordering_index (cmp b x)
rises a b x l = by (cmp a x) refl
  where
    by : (o : Ordering) → cmp a x ≡ o → ordering_index o ≤ ordering_index (cmp b x)
    by Less e = omega arith
    by Equal e = let g : cmp b x ≡ Greater = after_by x b (sym (nat_list_cmp_total.congr a x b e) ∙ l) in subst (λ o. 1 ≤ ordering_index o) (sym g) (omega arith)
    by Greater e =
        let first : cmp x a ≡ Less = nat_list_cmp_total.antisymm x a ∙ ap ordering_reverse e in
        let g : cmp b x ≡ Greater = after_by x b (nat_list_cmp_total.trans x a b first l) in subst (λ o. 2 ≤ ordering_index o) (sym g) (omega arith)

all_rise : (units : List Unit) → AllPairs IsNamedBefore (names_of units) → (x : List ℕ) → IsNonDecreasingBy (λ (u : Unit). ordering_index (cmp u.name x)) units
all_rise units s x i j d le lt = elim (cases_eq i j) as (λ _. ordering_index (cmp (get_or units i d).name x) ≤ ordering_index (cmp (get_or units j d).name x)) [
  | inl e ↦ subst (λ k. ordering_index (cmp (get_or units i d).name x) ≤ ordering_index (cmp (get_or units k d).name x)) e (omega arith)
  | inr ne ↦
      let before : i < j = omega (arith, ne) in
      let less = s i j d.name before (omega (arith, lt, length-map units (λ (u : Unit). u.name))) in
      let first = get_or-map (λ (u : Unit). u.name) units i d d.name (omega arith) in
      let second = get_or-map (λ (u : Unit). u.name) units j d d.name lt in
      rises (get_or units i d).name (get_or units j d).name x (subst (λ n. cmp (get_or units i d).name n ≡ Less) second (subst (λ n. cmp n (get_or (names_of units) j d.name) ≡ Less) first less))
]

pub searched : (units : List Unit) → AllPairs IsNamedBefore (names_of units) → (x : List ℕ) (r : Result ℕ ℕ) → IsSearchInRange r (length units)
    → IsBinarySearchResult (λ (u : Unit). cmp u.name x) units r → result_ok r ≡ number_in (names_of units) x
searched [] s x (Ok i) range found = absurd (omega (arith, range))
searched (u ∷ units) s x (Ok i) range found =
    let names = names_of (u ∷ units) in
    let at : slice_get names i ≡ Some (get_or names i u.name) = slice_get-get_or names i u.name (omega (arith, range, length-map (u ∷ units) (λ (u : Unit). u.name))) in
    let same : get_or names i u.name ≡ x = get_or-map (λ (u : Unit). u.name) (u ∷ units) i u u.name range ∙ exact_bytes _ x (found u) in
    sym (number_of names s i x (at ∙ ap Some same))
searched units s x (Err i) range found =
    let parts = found (all_rise units s x) in
    sym (none_there units x (λ k d lt e. elim (cases_lt k i) as (λ _. ⊥) [
      | inl below ↦ not_before_itself (get_or units k d).name x (parts.0 k d (omega arith) below) e
      | inr above ↦ not_before_itself x (get_or units k d).name (nat_list_cmp_total.antisymm x (get_or units k d).name ∙ ap ordering_reverse (parts.1 k d above lt)) (sym e)
    ]))
