-- The least path of the links that pass a test.
use Rattle.std.proofs.Common.{ℕ, zero, suc, ◌≡◌, ◌≢◌, ◌⊎◌, ◌∙◌, Bool, true, false, cond, is_lt, List, [], ◌∷◌, Contains, Option, Some, None, Less, Equal, Greater, true≢false, refl, sym, ap, subst, arith, inl, inr}
use Rattle.std.specs.Cmp.Lexicographic.{slice_cmp, nat_list_cmp_total}
use Rattle.std.specs.Ordering.{nat_cmp, ordering_reverse}
use Rattle.std.specs.declared.cmp.Ordering.{Ordering}
use Rattle.std.proofs.lemmas.Map.Lookups.{exact_bytes}
use Rattle.std.proofs.lemmas.Option.{same_Some, none-some}
use Rattle.um_model.specs.Install.{LinkAt}
use Rattle.um_model.specs.Least.{IsLeast, IsNamedBefore}
use Rattle.um_model.proofs.TimersLaws.{named_trans}
use Rattle.um_install.specs.Checks.{lesser, lesser_if, least_of}
use Rattle.um_install.proofs.Members.{contains_later}

-- it is that path or comes before it
abbrev AtMost : List ℕ → List ℕ → Type 0
AtMost p q = (p ≡ q) ⊎ IsNamedBefore p q

at_most_trans : (p q r : List ℕ) → AtMost p q → AtMost q r → AtMost p r
at_most_trans p q r (inl e) b = subst (λ x. AtMost x r) (sym e) b
at_most_trans p q r (inr a) (inl e) = inr (subst (IsNamedBefore p) e a)
at_most_trans p q r (inr a) (inr b) = inr (named_trans p q r a b)

not_after : (o : Ordering) (p q : List ℕ) → slice_cmp nat_cmp q p ≡ o → is_lt o ≡ false → AtMost p q
not_after Less p q e f = cc
not_after Equal p q e f = inl (sym (exact_bytes q p e))
not_after Greater p q e f = inr (nat_list_cmp_total.antisymm p q ∙ ap ordering_reverse e)

-- the lesser of the path found so far and another one is at most both, and one of them
record IsLesser (found : Option (List ℕ)) (path : List ℕ) (least : Option (List ℕ)) : Type 0 where
  some : (p : List ℕ) → least ≡ Some p → AtMost p path
  kept : (p q : List ℕ) → least ≡ Some p → found ≡ Some q → AtMost p q
  either : (p : List ℕ) → least ≡ Some p → (found ≡ Some p) ⊎ (path ≡ p)

less : (o : Ordering) → is_lt o ≡ true → o ≡ Less
less Less h = refl
less Equal h = cc
less Greater h = cc

by_order : (b : Bool) (other path : List ℕ) → is_lt (slice_cmp nat_cmp other path) ≡ b → IsLesser (Some other) path (cond b (Some other) (Some path))
by_order true other path t = record {
  some = λ p e. inr (subst (λ x. IsNamedBefore x path) (same_Some other p e) (less (slice_cmp nat_cmp other path) t));
  kept = λ p q e f. inl (sym (same_Some other p e) ∙ same_Some other q f);
  either = λ p e. inl e;
}
by_order false other path f = record {
  some = λ p e. inl (sym (same_Some path p e));
  kept = λ p q e g. subst (λ x. AtMost x q) (same_Some path p e) (subst (AtMost path) (same_Some other q g) (not_after (slice_cmp nat_cmp other path) path other refl f));
  either = λ p e. inr (same_Some path p e);
}

is_lesser : (found : Option (List ℕ)) (path : List ℕ) → IsLesser found path (lesser found path)
is_lesser None path = record {
  some = λ p e. inl (sym (same_Some path p e));
  kept = λ p q e f. absurd (none-some q f);
  either = λ p e. inr (same_Some path p e);
}
is_lesser (Some other) path = by_order (is_lt (slice_cmp nat_cmp other path)) other path refl

cond_some : (b : Bool) (other path : List ℕ) → cond b (Some other) (Some path) ≡ None → ⊥
cond_some true other path n = none-some other (sym n)
cond_some false other path n = none-some path (sym n)

not_none : (found : Option (List ℕ)) (path : List ℕ) → lesser found path ≡ None → ⊥
not_none None path n = none-some path (sym n)
not_none (Some other) path n = cond_some (is_lt (slice_cmp nat_cmp other path)) other path n

module _ (test : LinkAt → Bool) where
  record IsLeastOf (found : Option (List ℕ)) (ls : List LinkAt) (p : List ℕ) : Type 0 where
    below : (q : List ℕ) → found ≡ Some q → AtMost p q
    first : (l : LinkAt) → Contains ls l → test l ≡ true → AtMost p l.path
    from : (found ≡ Some p) ⊎ ((l : LinkAt) × Contains ls l × (test l ≡ true) × (l.path ≡ p))

  front : (l : LinkAt) (ls : List LinkAt) (p : List ℕ) → (test l ≡ true → AtMost p l.path) → ((x : LinkAt) → Contains ls x → test x ≡ true → AtMost p x.path)
      → (x : LinkAt) → Contains (l ∷ ls) x → test x ≡ true → AtMost p x.path
  front l ls p here rest x (zero, h, e) t = subst (λ (y : LinkAt). AtMost p y.path) e (here (ap test e ∙ t))
  front l ls p here rest x (suc k, h, e) t = rest x (k, omega arith, e) t

  from_later : (found : Option (List ℕ)) (l : LinkAt) (ls : List LinkAt) (p : List ℕ) → ((x : LinkAt) × Contains ls x × (test x ≡ true) × (x.path ≡ p))
      → (found ≡ Some p) ⊎ ((x : LinkAt) × Contains (l ∷ ls) x × (test x ≡ true) × (x.path ≡ p))
  from_later found l ls p r = inr (r.0, contains_later l ls r.0 r.1, r.2, r.3)

  with_one : (b : Bool) (found : Option (List ℕ)) (l : LinkAt) (ls : List LinkAt) (p : List ℕ) → test l ≡ b → IsLeastOf (lesser_if b found l.path) ls p → IsLeastOf found (l ∷ ls) p
  with_one false found l ls p t r = record {
    below = r.below;
    first = front l ls p (λ e. cc) r.first;
    from = elim r.from as (λ _. (found ≡ Some p) ⊎ ((x : LinkAt) × Contains (l ∷ ls) x × (test x ≡ true) × (x.path ≡ p))) [
      | inl e ↦ inl e
      | inr x ↦ from_later found l ls p x
    ];
  }
  with_one true found l ls p t r = let s = is_lesser found l.path in record {
    below = λ q e. elim (lesser found l.path) as (λ o. lesser found l.path ≡ o → AtMost p q) [
      | None ↦ λ n. absurd (not_none found l.path n)
      | Some m ↦ λ n. at_most_trans p m q (r.below m n) (s.kept m q n e)
    ] refl;
    first = front l ls p
        (λ e. elim (lesser found l.path) as (λ o. lesser found l.path ≡ o → AtMost p l.path) [
          | None ↦ λ n. absurd (not_none found l.path n)
          | Some m ↦ λ n. at_most_trans p m l.path (r.below m n) (s.some m n)
        ] refl)
        r.first;
    from = elim r.from as (λ _. (found ≡ Some p) ⊎ ((x : LinkAt) × Contains (l ∷ ls) x × (test x ≡ true) × (x.path ≡ p))) [
      | inl e ↦ elim (s.either p e) as (λ _. (found ≡ Some p) ⊎ ((x : LinkAt) × Contains (l ∷ ls) x × (test x ≡ true) × (x.path ≡ p))) [
        | inl old ↦ inl old
        | inr new ↦ inr (l, (0, omega arith, refl), t, new)
      ]
      | inr x ↦ from_later found l ls p x
    ];
  }

  least_is : (found : Option (List ℕ)) (ls : List LinkAt) (p : List ℕ) → least_of test found ls ≡ Some p → IsLeastOf found ls p
  least_is found [] p e = record {
    below = λ q f. inl (same_Some p q (sym e ∙ f));
    first = λ l (k, h, g) t. absurd (omega arith);
    from = inl e;
  }
  least_is found (l ∷ ls) p e = with_one (test l) found l ls p refl (least_is (lesser_if (test l) found l.path) ls p e)

  lesser_none : (b : Bool) (found : Option (List ℕ)) (path : List ℕ) → lesser_if b found path ≡ None → (b ≡ false) × (found ≡ None)
  lesser_none true found path n = absurd (not_none found path n)
  lesser_none false found path n = (refl, n)

  none_front : (l : LinkAt) (ls : List LinkAt) → test l ≡ false → ((x : LinkAt) → Contains ls x → test x ≡ false) → (x : LinkAt) → Contains (l ∷ ls) x → test x ≡ false
  none_front l ls here rest x (zero, h, e) = ap test (sym e) ∙ here
  none_front l ls here rest x (suc k, h, e) = rest x (k, omega arith, e)

  pub none_is : (found : Option (List ℕ)) (ls : List LinkAt) → least_of test found ls ≡ None → (found ≡ None) × ((l : LinkAt) → Contains ls l → test l ≡ false)
  none_is found [] n = (n, λ l c. absurd (omega (arith, c.1)))
  none_is found (l ∷ ls) n =
      let r = none_is (lesser_if (test l) found l.path) ls n in
      let f = lesser_none (test l) found l.path r.0 in
      (f.1, none_front l ls f.0 r.1)

  -- from a property of the paths of the links that pass, and of no others
  module _ (links : List LinkAt) (Has : List ℕ → Type 0) (inside : (l : LinkAt) → Contains links l → test l ≡ true → Has l.path)
      (outside : (path : List ℕ) → Has path → (l : LinkAt) × Contains links l × (test l ≡ true) × (l.path ≡ path)) where
    apart_before : (p q : List ℕ) → AtMost p q → q ≢ p → IsNamedBefore p q
    apart_before p q (inl e) ne = absurd (ne (sym e))
    apart_before p q (inr b) ne = b

    found_has : (p : List ℕ) → ((◌≡◌ {A = Option (List ℕ)} None (Some p)) ⊎ ((l : LinkAt) × Contains links l × (test l ≡ true) × (l.path ≡ p))) → Has p
    found_has p (inl e) = absurd (none-some p e)
    found_has p (inr r) = subst Has r.3 (inside r.0 r.1 r.2)

    pub least_has : (p : List ℕ) → least_of test None links ≡ Some p → IsLeast IsNamedBefore Has p
    least_has p e = let r = least_is None links p e in record {
      has = found_has p r.from;
      first = λ other has ne. let o = outside other has in apart_before p other (subst (AtMost p) o.3 (r.first o.0 o.1 o.2)) ne;
    }

    pub none_has : least_of test None links ≡ None → (path : List ℕ) → Has path → ⊥
    none_has n path has = let o = outside path has in true≢false (sym o.2 ∙ (none_is None links n).1 o.0 o.1)
