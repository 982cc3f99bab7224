-- A folder's entries lie between its path with a slash and its path with the sign after a slash.
use Rattle.std.proofs.Common.{◌≡◌, ℕ, List, [], ◌∷◌, ◌++◌, Bool, true, false, not, ◌&&◌, cond, String, Global, string_bytes, string_cmp, is_gt, is_le, codes, filter, map as each, arith, refl, sym, ap, ◌∙◌}
use Rattle.std.specs.declared.ops.Bound.TheVariants.{Included, Excluded, Unbounded}
use Rattle.std.specs.BTreeMap.Range.{entries_between}
use Rattle.std.specs.Cmp.Lexicographic.{slice_cmp}
use Rattle.std.specs.List.{starts_with}
use Rattle.std.specs.Prelude.{nat_eq}
use Rattle.std.specs.Ordering.{nat_cmp}
use Rattle.um_model.specs.Tree.{Entry}
use Rattle.um_tree.specs.Folder.{with_slash}
use Rattle.um_tree.specs.View.{path_and_entry, stored_entry}
use Rattle.um_tree.specs.declared.entry.Stored.{Stored}
use Rattle.um_tree.proofs.TextMaps.{filter-each}

-- from a text on, and before another one
abbrev pub is_between : List ℕ → List ℕ → List ℕ → Bool
is_between first end path = is_le (slice_cmp nat_cmp first path) && not (is_le (slice_cmp nat_cmp end path))

between_is_in : (folder path : List ℕ) → is_between (folder ++ codes "/") (folder ++ codes "0") path ≡ starts_with nat_eq path (with_slash folder)
between_is_in [] [] = refl
between_is_in [] (b ∷ bs) = grind arith
between_is_in (f ∷ fs) [] = refl
between_is_in (f ∷ fs) (b ∷ bs) = grind (arith, between_is_in fs bs)

forward_so : (folder : List ℕ) → is_gt (slice_cmp nat_cmp (folder ++ codes "/") (folder ++ codes "0")) ≡ false
forward_so [] = refl
forward_so (f ∷ fs) = grind (arith, forward_so fs)

pub is_forward : (folder first end : List ℕ) → first ≡ folder ++ codes "/" → end ≡ folder ++ codes "0" → is_gt (slice_cmp nat_cmp first end) ≡ false
is_forward folder first end f e = rw (f, e) (forward_so folder)

filter_same : {A : Type 0} (p q : A → Bool) → ((x : A) → p x ≡ q x) → (xs : List A) → filter p xs ≡ filter q xs
filter_same p q h [] = refl
filter_same p q h (x ∷ xs) = rw (h x, filter_same p q h xs) refl

-- all entries lie between no bounds
pub all_between : (es : List (String Global × Stored)) → entries_between string_cmp Unbounded Unbounded es ≡ es
all_between [] = refl
all_between (x ∷ xs) = ap (λ ys. x ∷ ys) (all_between xs)

pub ranged : (folder : List ℕ) (first end : String Global) → string_bytes first ≡ folder ++ codes "/" → string_bytes end ≡ folder ++ codes "0"
    → (es : List (String Global × Stored))
    → each path_and_entry (entries_between string_cmp (Included first) (Excluded end) es) ≡ filter (λ e. starts_with nat_eq e.0 (with_slash folder)) (each path_and_entry es)
ranged folder first end f e es =
    filter-each stored_entry (is_between (string_bytes first) (string_bytes end)) es
    ∙ filter_same (λ x. is_between (string_bytes first) (string_bytes end) x.0) (λ x. starts_with nat_eq x.0 (with_slash folder)) (λ x. rw (f, e) (between_is_in folder x.0)) (each path_and_entry es)
