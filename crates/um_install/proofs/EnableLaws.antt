-- The tree with the requested links, and why there is none.
use Rattle.std.proofs.Common.{ℕ, zero, suc, ◌+◌, ◌≤◌, ◌≡◌, ◌∙◌, nat_le, Bool, true, false, not, cond, ◌&&◌, is_eq, List, [], ◌∷◌, map as each, Contains, Option, Some, None, is_some, is_none, Ok, Less, refl, sym, ap, subst, arith}
use Rattle.std.specs.Cmp.{eq_by_cmp_equiv}
use Rattle.std.specs.Cmp.Lexicographic.{slice_cmp, nat_list_cmp_total}
use Rattle.std.specs.FinMap as map
use Rattle.std.specs.Ordering.{nat_cmp, eq_by_cmp}
use Rattle.std.proofs.lemmas.Bool.Decides.{nat_tests}
use Rattle.std.proofs.lemmas.Cmp.{tied_itself}
use Rattle.std.proofs.lemmas.Option.{none-some}
use Rattle.um_model.specs.Tree.{Tree, Entry, Link, entry_limit, is_fit_target, is_full_for, is_other_than_link, path_parts, put_link}
use Rattle.um_model.specs.Refusals.{Refused, bad_path, exists_at, too_large, unless_refused}
use Rattle.um_model.specs.declared.refusals.Limit.TheVariants.{Entries}
use Rattle.um_laws.proofs.NameMaps.{After, Rising}
use Rattle.um_install.specs.Changes.{and_then, linked}
use Rattle.um_install.specs.Checks.{new_paths, one_if}
use Rattle.um_install.proofs.Members.{after_at, contains_later}

-- the tree with these links put in
abbrev pub grown : Tree → List (List ℕ × List ℕ) → Tree
grown tree [] = tree
grown tree (e ∷ es) = grown (map.insert tree e.0 (Link e.1)) es

-- a path that isn't among those after it
absent : (path : List ℕ) (es : List (List ℕ × List ℕ)) → After path es → map.find (slice_cmp nat_cmp) path es ≡ None
absent path [] a = refl
absent path (e ∷ es) a =
    let other : eq_by_cmp (slice_cmp nat_cmp) path e.0 ≡ false = ap is_eq a.0 in
    ap (λ b. cond b (Some e.1) (map.find (slice_cmp nat_cmp) path es)) other ∙ absent path es a.1

-- the entry at a path that is none of theirs
pub kept_at : (tree : Tree) (es : List (List ℕ × List ℕ)) (path : List ℕ) → map.find (slice_cmp nat_cmp) path es ≡ None → map.get (grown tree es) path ≡ map.get tree path
kept_at tree [] path n = refl
kept_at tree (e ∷ es) path n = elim (eq_by_cmp (slice_cmp nat_cmp) path e.0) as (λ b. eq_by_cmp (slice_cmp nat_cmp) path e.0 ≡ b → map.get (grown tree (e ∷ es)) path ≡ map.get tree path) [
  | true ↦ λ t. absurd (none-some e.1 (sym n ∙ ap (λ b. cond b (Some e.1) (map.find (slice_cmp nat_cmp) path es)) t))
  | false ↦ λ f.
      kept_at (map.insert tree e.0 (Link e.1)) es path (sym (ap (λ b. cond b (Some e.1) (map.find (slice_cmp nat_cmp) path es)) f) ∙ n)
      ∙ (map.get-insert nat_list_cmp_total tree e.0 (Link e.1) path ∙ ap (λ b. cond b (Some (Link e.1)) (map.get tree path)) f)
] refl

-- the entry at the path of one of them
pub linked_at : (tree : Tree) (es : List (List ℕ × List ℕ)) → Rising es → (e : List ℕ × List ℕ) → Contains es e → map.get (grown tree es) e.0 ≡ Some (Link e.1)
linked_at tree [] r e (k, h, g) = absurd (omega arith)
linked_at tree (x ∷ es) r e (zero, h, g) =
    subst (λ (y : List ℕ × List ℕ). map.get (grown tree (x ∷ es)) y.0 ≡ Some (Link y.1)) g
    (kept_at (map.insert tree x.0 (Link x.1)) es x.0 (absent x.0 es r.0)
    ∙ (map.get-insert nat_list_cmp_total tree x.0 (Link x.1) x.0 ∙ ap (λ o. cond (is_eq o) (Some (Link x.1)) (map.get tree x.0)) (tied_itself nat_list_cmp_total x.0)))
linked_at tree (x ∷ es) r e (suc k, h, g) = linked_at (map.insert tree x.0 (Link x.1)) es r.1 e (k, omega arith, g)

-- another path isn't touched
apart_from : (tree : Tree) (x e : List ℕ × List ℕ) → slice_cmp nat_cmp x.0 e.0 ≡ Less → map.get (map.insert tree x.0 (Link x.1)) e.0 ≡ map.get tree e.0
apart_from tree x e less =
    map.get-insert nat_list_cmp_total tree x.0 (Link x.1) e.0
    ∙ ap (λ b. cond b (Some (Link x.1)) (map.get tree e.0)) ((eq_by_cmp_equiv nat_list_cmp_total).symm e.0 x.0 ∙ ap is_eq less)

same_new : (tree : Tree) (x : List ℕ × List ℕ) (es : List (List ℕ × List ℕ)) → After x.0 es → new_paths (map.insert tree x.0 (Link x.1)) (each (λ e. e.0) es) ≡ new_paths tree (each (λ e. e.0) es)
same_new tree x [] a = refl
same_new tree x (e ∷ es) a =
    ap (λ o. one_if (is_none o) (new_paths (map.insert tree x.0 (Link x.1)) (each (λ e. e.0) es))) (apart_from tree x e a.0)
    ∙ ap (one_if (is_none (map.get tree e.0))) (same_new tree x es a.1)

one_more : (o : Option Entry) (m n : ℕ) → cond (is_some o) m (m + 1) + n ≡ m + one_if (is_none o) n
one_more None m n = omega arith
one_more (Some e) m n = refl

-- the number of its entries
pub len_grown : (tree : Tree) (es : List (List ℕ × List ℕ)) → Rising es → map.len (grown tree es) ≡ map.len tree + new_paths tree (each (λ e. e.0) es)
len_grown tree [] r = omega arith
len_grown tree (x ∷ es) r =
    len_grown (map.insert tree x.0 (Link x.1)) es r.1
    ∙ (ap (λ n. map.len (map.insert tree x.0 (Link x.1)) + n) (same_new tree x es r.0)
    ∙ (ap (λ m. m + new_paths tree (each (λ e. e.0) es)) (map.len-insert nat_list_cmp_total tree x.0 (Link x.1))
    ∙ one_more (map.get tree x.0) (map.len tree) (new_paths tree (each (λ e. e.0) es))))

-- a link that may be put
pub record MayStand (tree : Tree) (e : List ℕ × List ℕ) : Type 0 where
  pub fit : is_fit_target (path_parts e.0) e.1 ≡ true
  pub free : is_other_than_link (map.get tree e.0) e.1 ≡ false

pub may_stand : (tree : Tree) (e : List ℕ × List ℕ) → is_fit_target (path_parts e.0) e.1 ≡ true → is_other_than_link (map.get tree e.0) e.1 ≡ false → MayStand tree e
may_stand tree e fit free = record { fit = fit; free = free }

no_cause : (fit other full : Bool) (p q r : Refused) → fit ≡ true → other ≡ false → full ≡ false → cond (not fit) (Some p) (cond other (Some q) (cond full (Some r) None)) ≡ None
no_cause true false false p q r a b c = refl
no_cause true false true p q r a b c = cc
no_cause true true full p q r a b c = cc
no_cause false other full p q r a b c = cc

not_full : (o : Option Entry) (m n : ℕ) → m + one_if (is_none o) n ≤ entry_limit → (is_none o && nat_le entry_limit m) ≡ false
not_full None m n few = grind (arith, nat_tests)
not_full (Some e) m n few = refl

one_put : (tree : Tree) (e : List ℕ × List ℕ) (n : ℕ) → MayStand tree e → map.len tree + one_if (is_none (map.get tree e.0)) n ≤ entry_limit → put_link tree e.0 e.1 ≡ Ok (map.insert tree e.0 (Link e.1))
unfolding put_link
one_put tree e n may few =
    ap (λ o. unless_refused o (map.insert tree e.0 (Link e.1)))
    (no_cause (is_fit_target (path_parts e.0) e.1) (is_other_than_link (map.get tree e.0) e.1) (is_full_for tree e.0) (bad_path e.0) (exists_at e.0) (too_large Entries) may.fit may.free
    (not_full (map.get tree e.0) (map.len tree) n few))

later_may : (tree : Tree) (x : List ℕ × List ℕ) (es : List (List ℕ × List ℕ)) → After x.0 es → ((e : List ℕ × List ℕ) → Contains (x ∷ es) e → MayStand tree e)
    → (e : List ℕ × List ℕ) → Contains es e → MayStand (map.insert tree x.0 (Link x.1)) e
later_may tree x es a may e c = let m = may e (contains_later x es e c) in record {
  fit = m.fit;
  free = ap (λ o. is_other_than_link o e.1) (apart_from tree x e (after_at x.0 es a c.0 e c.1 c.2)) ∙ m.free;
}

len_more : (o : Option Entry) (m n k l : ℕ) → l ≡ cond (is_some o) m (m + 1) → k ≡ n → m + one_if (is_none o) n ≤ entry_limit → l + k ≤ entry_limit
len_more None m n k l e f few = omega arith
len_more (Some x) m n k l e f few = omega arith

-- each link can be put, and they make that tree
pub all_put : (tree : Tree) (es : List (List ℕ × List ℕ)) → Rising es → ((e : List ℕ × List ℕ) → Contains es e → MayStand tree e)
    → map.len tree + new_paths tree (each (λ e. e.0) es) ≤ entry_limit → linked tree es ≡ Ok (grown tree es)
all_put tree [] r may few = refl
all_put tree (x ∷ es) r may few =
    ap (λ o. and_then o (λ next. linked next es)) (one_put tree x (new_paths tree (each (λ e. e.0) es)) (may x (0, omega arith, refl)) few)
    ∙ all_put (map.insert tree x.0 (Link x.1)) es r.1 (later_may tree x es r.0 may)
    (len_more (map.get tree x.0) (map.len tree) (new_paths tree (each (λ e. e.0) es)) (new_paths (map.insert tree x.0 (Link x.1)) (each (λ e. e.0) es)) (map.len (map.insert tree x.0 (Link x.1)))
    (map.len-insert nat_list_cmp_total tree x.0 (Link x.1)) (same_new tree x es r.0) few)
