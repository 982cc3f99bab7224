-- The numbers of some units of a graph are marked, one unit after another.
use Rattle.std.proofs.Common.{◌≡◌, ◌≢◌, ◌⊎◌, ◌↔◌, ◌∙◌, ◌+◌, ◌<◌, ◌≤◌, ◌++◌, ◌∷◌, [], ℕ, Bool, true, false, true≢false, List, Contains, Some, AllPairs, length, get_or, set, replicate, take, sym, ap, subst, inl, inr, arith}
use Rattle.std.specs.Prelude.{slice_get}
use Rattle.std.proofs.lemmas.Bool.{cases_eq}
use Rattle.std.proofs.lemmas.List.{get_or-replicate, get_or-set_other, get_or-set_same, length-replicate, length-set, take_all, take_more}
use Rattle.std.proofs.lemmas.List.Elements.{Contains-append_left, Contains-push, Contains-push_cases}
use Rattle.std.proofs.lemmas.Option.{get_or_from_slice_get, same_Some}
use Rattle.um_model.specs.Least.{IsNamedBefore}
use Rattle.um_graph.proofs.NamedLaws.{got_within}
use Rattle.um_graph.proofs.NumberLaws.{number_of}
use Rattle.um_engine.specs.Known.{AreMarked}

pub marked_none : (names units : List (List ℕ)) (marks : List Bool) → marks ≡ replicate (length names) false → AreMarked names (take 0 units) marks
marked_none names units marks is = record {
  long = ap length is ∙ length-replicate (length names) false;
  each = λ i unit at. (
    λ yes. absurd (true≢false (sym yes ∙ (ap (λ m. get_or m i false) is ∙ get_or-replicate (length names) i false false (got_within names i unit at)))),
    λ there. absurd (omega (arith, there.1)),
  );
}

pub marked_all : (names units : List (List ℕ)) (marks : List Bool) (n : ℕ) → length units ≤ n → AreMarked names (take n units) marks → AreMarked names units marks
marked_all names units marks n past h = subst (λ us. AreMarked names us marks) (take_all n units past) h

module _ (names units : List (List ℕ)) (n : ℕ) (x : List ℕ) (low : n < length units) (here : get_or units n x ≡ x) (marks later : List Bool) (below : AreMarked names (take n units) marks) where
  taken : take (n + 1) units ≡ take n units ++ x ∷ []
  taken = take_more units n x low ∙ ap (λ y. take n units ++ y ∷ []) here

  from_taken : (u : List ℕ) → Contains (take (n + 1) units) u → Contains (take n units) u ⊎ (x ≡ u)
  from_taken u c = Contains-push_cases (take n units) x u (subst (λ xs. Contains xs u) taken c)

  to_taken : (u : List ℕ) → Contains (take n units) u ⊎ (x ≡ u) → Contains (take (n + 1) units) u
  to_taken u h =
      subst (λ xs. Contains xs u) (sym taken)
      (elim h as (λ _. Contains (take n units ++ x ∷ []) u) [
        | inl among ↦ Contains-append_left (take n units) (x ∷ []) u among
        | inr is ↦ subst (Contains (take n units ++ x ∷ [])) is (Contains-push (take n units) x)
      ])

  -- it has no number, and none is marked
  pub none_more : later ≡ marks → ¬ Contains names x → AreMarked names (take (n + 1) units) later
  none_more is none = record {
    long = ap length is ∙ below.long;
    each = λ i u at. (
      λ yes. to_taken u (inl ((below.each i u at).0 (sym (ap (λ m. get_or m i false) is) ∙ yes))),
      λ there. elim (from_taken u there) as (λ _. get_or later i false ≡ true) [
        | inl among ↦ ap (λ m. get_or m i false) is ∙ (below.each i u at).1 among
        | inr same ↦ absurd (none (i, got_within names i x (at ∙ ap Some (sym same)), get_or_from_slice_get names i x x (at ∙ ap Some (sym same))))
      ],
    );
  }

  -- its number is marked
  pub one_more : (j : ℕ) → AllPairs IsNamedBefore names → later ≡ set marks j true → slice_get names j ≡ Some x → AreMarked names (take (n + 1) units) later
  one_more j sorted is number = record { long = ap length is ∙ (length-set marks j true ∙ below.long); each = each }
    where
      own : (i : ℕ) → i ≡ j → get_or later i false ≡ true
      own i same =
          ap (λ k. get_or later k false) same
          ∙ (ap (λ m. get_or m j false) is ∙ get_or-set_same marks j true false (let within = got_within names j x number in omega (arith, within, below.long)))

      other : (i : ℕ) → i ≢ j → get_or later i false ≡ get_or marks i false
      other i apart = ap (λ m. get_or m i false) is ∙ get_or-set_other marks j i true false apart

      at_one : (i : ℕ) (u : List ℕ) → slice_get names i ≡ Some u → x ≡ u → i ≡ j
      at_one i u at same = same_Some i j (sym (number_of names sorted i x (at ∙ ap Some (sym same))) ∙ number_of names sorted j x number)

      each : (i : ℕ) (u : List ℕ) → slice_get names i ≡ Some u → (get_or later i false ≡ true) ↔ Contains (take (n + 1) units) u
      each i u at = elim (cases_eq i j) as (λ _. (get_or later i false ≡ true) ↔ Contains (take (n + 1) units) u) [
        | inl same ↦ (λ yes. to_taken u (inr (same_Some x u (sym number ∙ (ap (slice_get names) (sym same) ∙ at)))), λ there. own i same)
        | inr apart ↦ (
          λ yes. to_taken u (inl ((below.each i u at).0 (sym (other i apart) ∙ yes))),
          λ there. elim (from_taken u there) as (λ _. get_or later i false ≡ true) [
            | inl among ↦ other i apart ∙ (below.each i u at).1 among
            | inr is ↦ absurd (apart (at_one i u at is))
          ],
        )
      ]
