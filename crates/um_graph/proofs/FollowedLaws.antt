-- The set of the followed names: with one name more, and for a state of the search that hasn't changed.
use Rattle.std.proofs.Common.{◌≡◌, ◌++◌, ◌∷◌, ◌∙◌, ℕ, Bool, true, false, true≢false, cond, List, [], Contains, Some, is_some, refl, sym, ap, subst, inl, inr}
use Rattle.std.specs.Cmp.{eq_by_cmp_equiv}
use Rattle.std.specs.Cmp.Lexicographic.{slice_cmp, nat_list_cmp_total}
use Rattle.std.specs.HashSet.{HashSet, contains}
use Rattle.std.specs.Ordering.{eq_by_cmp, nat_cmp}
use Rattle.std.specs.Str.{bytes_eq}
use Rattle.std.proofs.lemmas.List.Elements.{Contains-append_left, Contains-push_cases}
use Rattle.std.proofs.lemmas.Map.Lookups.{exact_bytes}
use Rattle.std.proofs.lemmas.Map.Views.{tells_apart}
use Rattle.std.proofs.lemmas.Slice.Eq.{bytes_eq-Decides}
use Rattle.um_unit.specs.declared.loaded.Loading.{Loading}
use Rattle.um_graph.specs.Followed.{AreFollowed}
use Rattle.um_graph.specs.Known.{IsFollowed, IsMet, LeavesOut, Loaded, loading_at}

-- the two comparisons of names agree
is_same : (a b : List ℕ) → bytes_eq a b ≡ true → eq_by_cmp (slice_cmp nat_cmp) a b ≡ true
is_same a b t = ap (eq_by_cmp (slice_cmp nat_cmp) a) (sym ((bytes_eq-Decides a b).0 t)) ∙ (eq_by_cmp_equiv nat_list_cmp_total).refl a

is_other : (a b : List ℕ) → bytes_eq a b ≡ false → eq_by_cmp (slice_cmp nat_cmp) a b ≡ false
is_other a b f = by (eq_by_cmp (slice_cmp nat_cmp) a b) refl
  where
    by : (c : Bool) → eq_by_cmp (slice_cmp nat_cmp) a b ≡ c → c ≡ false
    by true t = absurd (true≢false (sym ((bytes_eq-Decides a b).1 (tells_apart exact_bytes a b t)) ∙ f))
    by false t = refl

module _ {S : Type 0} where
  pub one_followed : (old new : Loaded) (names more : HashSet (List ℕ) S) (name : List ℕ) (l : Loading) → AreFollowed old names
      → ((x : List ℕ) → contains bytes_eq more x ≡ cond (bytes_eq name x) true (contains bytes_eq names x))
      → ((x : List ℕ) → loading_at new x ≡ cond (eq_by_cmp (slice_cmp nat_cmp) name x) (Some l) (loading_at old x)) → AreFollowed new more
  one_followed old new names more name l are added updated x = by (bytes_eq name x) refl
    where
      by : (b : Bool) → bytes_eq name x ≡ b → contains bytes_eq more x ≡ is_some (loading_at new x)
      by true t =
          added x ∙ (ap (λ b. cond b true (contains bytes_eq names x)) t
          ∙ sym (ap is_some (updated x ∙ ap (λ b. cond b (Some l) (loading_at old x)) (is_same name x t))))
      by false t =
          added x ∙ (ap (λ b. cond b true (contains bytes_eq names x)) t
          ∙ (are x ∙ sym (ap is_some (updated x ∙ ap (λ b. cond b (Some l) (loading_at old x)) (is_other name x t)))))

  pub still_followed : (old new : Loaded) (names others : HashSet (List ℕ) S) → new ≡ old → others ≡ names → AreFollowed old names → AreFollowed new others
  still_followed old new names others e f are =
      subst (λ ns. AreFollowed new ns) (sym f) (subst (λ m. AreFollowed m names) (sym e) are)

  -- a name that was followed is left out
  pub one_left_out : (loaded : Loaded) (names : HashSet (List ℕ) S) (start left after : List (List ℕ)) (name : List ℕ) → AreFollowed loaded names
      → contains bytes_eq names name ≡ true → left ≡ after ++ name ∷ [] → LeavesOut loaded start left → LeavesOut loaded start after
  one_left_out loaded names start left after name are has is out = record {
    fewer = λ x c. out.fewer x (subst (λ l. Contains l x) (sym is) (Contains-append_left after (name ∷ []) x c));
    kept = λ x c. by x (out.kept x c);
  }
    where
      followed : IsFollowed loaded name
      followed = sym (are name) ∙ has

      by : (x : List ℕ) → IsMet loaded left x → IsMet loaded after x
      by x (inl f) = inl f
      by x (inr c) = elim (Contains-push_cases after name x (subst (λ l. Contains l x) is c)) as (λ _. IsMet loaded after x) [
        | inl among ↦ inr among
        | inr here ↦ inl (subst (λ n. IsFollowed loaded n) here followed)
      ]
