-- A walk over the entries of a map by names finds a property of all of them.
use Rattle.std.proofs.Common.{◌≡◌, ℕ, Bool, true, false, ◌&&◌, List, [], ◌∷◌, sym, ap, ◌∙◌}
use Rattle.std.specs.BTreeMap as tree
use Rattle.std.specs.BTreeMap.{BTreeMap}
use Rattle.std.specs.Cmp.Lexicographic.{slice_cmp}
use Rattle.std.specs.FinMap as map
use Rattle.std.specs.List.{list_all}
use Rattle.std.specs.Ordering.{nat_cmp}
use Rattle.um_laws.proofs.NameMaps.{seen, entries_kept}

module _ {X : Type 0} (test : List ℕ × X → Bool) (m : BTreeMap (List ℕ) X) (ordered : tree.IsOrdered (slice_cmp nat_cmp) m) where
  whole : (initial left : List (List ℕ × X)) → initial ≡ m.entries → list_all test left ≡ list_all test initial → list_all test (map.entries (seen m)) ≡ list_all test left
  whole initial left all walked = ap (list_all test) (entries_kept m ordered) ∙ (ap (list_all test) (sym all) ∙ sym walked)

  -- nothing is left
  pub all_pass : (initial left : List (List ℕ × X)) → initial ≡ m.entries → list_all test left ≡ list_all test initial → left ≡ [] → true ≡ list_all test (map.entries (seen m))
  all_pass initial left all walked none = sym (whole initial left all walked ∙ ap (list_all test) none)

  -- the next one fails
  pub one_fails : (initial left : List (List ℕ × X)) (e : List ℕ × X) (more : List (List ℕ × X)) → initial ≡ m.entries → list_all test left ≡ list_all test initial
      → left ≡ e ∷ more → test e ≡ false → false ≡ list_all test (map.entries (seen m))
  one_fails initial left e more all walked next fails = sym (whole initial left all walked ∙ (ap (list_all test) next ∙ ap (λ b. b && list_all test more) fails))
