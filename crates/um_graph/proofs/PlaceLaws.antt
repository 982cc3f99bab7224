-- Names that ascend: the place of a name is its number, and one list alone has just these names.
use Rattle.std.proofs.Common.{◌≡◌, ◌⊎◌, ◌<◌, ◌||◌, ◌∙◌, ℕ, suc, Bool, true, false, true≢false, cond, List, [], ◌∷◌, length, AllPairs, Contains, IfSome, MatchOption, Option, Some, None, option_map, slice_get, refl, sym, ap, subst, inl, inr, arith}
use Rattle.std.specs.List.{list_any}
use Rattle.std.specs.Str.{bytes_eq}
use Rattle.std.proofs.lemmas.Option.{slice_get-get_or}
use Rattle.std.proofs.lemmas.Slice.Eq.{bytes_eq-Decides}
use Rattle.um_model.specs.Least.{IsNamedBefore}
use Rattle.um_model.proofs.TimersLaws.{names_one_way}
use Rattle.um_name.specs.Names.{HasPlace, IsApart}
use Rattle.um_graph.specs.Edges.{number_in}
use Rattle.um_graph.proofs.ListLaws.{cons_in, in_cons, in_none}
use Rattle.um_graph.proofs.NumberLaws.{not_before_itself, number_of, tail_sorted}

-- a name that stands at no place has no number
none_at : (ns : List (List ℕ)) (x : List ℕ) → IsApart ns x → number_in ns x ≡ None
none_at [] x h = refl
none_at (n ∷ ns) x h = by (bytes_eq n x) refl (none_at ns x (λ i lt. h (suc i) (omega arith)))
  where
    by : (b : Bool) → bytes_eq n x ≡ b → number_in ns x ≡ None → cond b (Some 0) (option_map suc (number_in ns x)) ≡ None
    by true t rest = absurd (h 0 (omega arith) ((bytes_eq-Decides n x).0 t))
    by false t rest = ap (option_map suc) rest

-- a name and a list of names that ascend
module _ (ns : List (List ℕ)) (sorted : AllPairs IsNamedBefore ns) (x : List ℕ) where
  at_place : (i : ℕ) → HasPlace ns x i → slice_get ns i ≡ Some x
  at_place i h = slice_get-get_or ns i [] h.0 ∙ ap Some h.1

  pub placed : (o : Option ℕ) → MatchOption o (IsApart ns x) (HasPlace ns x) → o ≡ number_in ns x
  placed None h = sym (none_at ns x h)
  placed (Some i) h = sym (number_of ns sorted i x (at_place i h))

  pub placed_within : (o : Option ℕ) → MatchOption o (IsApart ns x) (HasPlace ns x) → IfSome o (λ i. i < length ns)
  placed_within None h = tt
  placed_within (Some i) h = h.0

-- ---- two lists of names in ascending order are the same if each has the names of the other
among : (ns : List (List ℕ)) (x : List ℕ) → Contains ns x → list_any (bytes_eq x) ns ≡ true
among [] x c = absurd (in_none x c)
among (n ∷ ns) x c = by (bytes_eq x n) refl (in_cons n ns x c) (among ns x)
  where
    by : (b : Bool) → bytes_eq x n ≡ b → (n ≡ x) ⊎ Contains ns x → (Contains ns x → list_any (bytes_eq x) ns ≡ true) → (b || list_any (bytes_eq x) ns) ≡ true
    by true t c rest = refl
    by false t (inl e) rest = absurd (true≢false (sym ((bytes_eq-Decides x n).1 (sym e)) ∙ t))
    by false t (inr d) rest = rest d

listed : (ns : List (List ℕ)) (x : List ℕ) → list_any (bytes_eq x) ns ≡ true → Contains ns x
listed [] x e = absurd (true≢false (sym e))
listed (n ∷ ns) x e = by (bytes_eq x n) refl e (listed ns x)
  where
    by : (b : Bool) → bytes_eq x n ≡ b → (b || list_any (bytes_eq x) ns) ≡ true → (list_any (bytes_eq x) ns ≡ true → Contains ns x) → Contains (n ∷ ns) x
    by true t e rest = (0, omega arith, sym ((bytes_eq-Decides x n).0 t))
    by false t e rest = cons_in n ns x (rest e)

first_before : (n : List ℕ) (ns : List (List ℕ)) → AllPairs IsNamedBefore (n ∷ ns) → (x : List ℕ) → Contains ns x → IsNamedBefore n x
first_before n ns s x (k, h, e) = subst (IsNamedBefore n) e (s 0 (suc k) x (omega arith) (omega arith))

-- two such lists begin with the same name, and the rests have the same names
module _ (n o : List ℕ) (ns os : List (List ℕ)) (s : AllPairs IsNamedBefore (n ∷ ns)) (t : AllPairs IsNamedBefore (o ∷ os))
    (to : (x : List ℕ) → Contains (n ∷ ns) x → Contains (o ∷ os) x) (from : (x : List ℕ) → Contains (o ∷ os) x → Contains (n ∷ ns) x) where
  apart : Contains os n → Contains ns o → ⊥
  apart c d = names_one_way n o (first_before n ns s o d) (first_before o os t n c)

  same_first : n ≡ o
  same_first = elim (in_cons o os n (to n (0, omega arith, refl))) as (λ _. n ≡ o) [
    | inl e ↦ sym e
    | inr c ↦ elim (in_cons n ns o (from o (0, omega arith, refl))) as (λ _. n ≡ o) [ inl e ↦ e | inr d ↦ absurd (apart c d) ]
  ]

  behind_to : (x : List ℕ) → Contains ns x → Contains os x
  behind_to x c = elim (in_cons o os x (to x (cons_in n ns x c))) as (λ _. Contains os x) [
    | inl e ↦ absurd (not_before_itself n x (first_before n ns s x c) (same_first ∙ e))
    | inr d ↦ d
  ]

  behind_from : (x : List ℕ) → Contains os x → Contains ns x
  behind_from x c = elim (in_cons n ns x (from x (cons_in o os x c))) as (λ _. Contains ns x) [
    | inl e ↦ absurd (not_before_itself o x (first_before o os t x c) (sym same_first ∙ e))
    | inr d ↦ d
  ]

same_names : (ns os : List (List ℕ)) → AllPairs IsNamedBefore ns → AllPairs IsNamedBefore os → ((x : List ℕ) → Contains ns x → Contains os x)
    → ((x : List ℕ) → Contains os x → Contains ns x) → ns ≡ os
same_names [] [] s t to from = refl
same_names [] (o ∷ os) s t to from = absurd (in_none o (from o (0, omega arith, refl)))
same_names (n ∷ ns) [] s t to from = absurd (in_none n (to n (0, omega arith, refl)))
same_names (n ∷ ns) (o ∷ os) s t to from =
    let rest : ns ≡ os
    = same_names ns os (tail_sorted n ns s) (tail_sorted o os t) (behind_to n o ns os s t to from) (behind_from n o ns os s t to from) in
    λ i. same_first n o ns os s t to from i ∷ rest i

pub same_order : (ns os : List (List ℕ)) → AllPairs IsNamedBefore ns → AllPairs IsNamedBefore os
    → ((x : List ℕ) → list_any (bytes_eq x) ns ≡ list_any (bytes_eq x) os) → ns ≡ os
same_order ns os s t same =
    same_names ns os s t (λ x c. listed os x (sym (same x) ∙ among ns x c)) (λ x c. listed ns x (same x ∙ among os x c))
