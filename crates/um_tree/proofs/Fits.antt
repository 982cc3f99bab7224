-- The test of a tree that was read, which the code makes over the entries that it holds.
use Rattle.std.proofs.Common.{◌≡◌, ◌&&◌, Bool, true, false, length, map as each, nat_le, string_cmp, sym, ap, ◌∙◌}
use Rattle.std.specs.BTreeMap as tree
use Rattle.std.specs.FinMap as map
use Rattle.std.specs.List.{list_all}
use Rattle.um_model.specs.Tree.{is_fit_entry, entry_limit}
use Rattle.um_model.specs.StateSpellings.{is_tree}
use Rattle.um_tree.specs.View.{path_and_entry, stored_entry, tree_of}
use Rattle.um_tree.proofs.TextMaps.{entries-map_of, len-map_of}
use Rattle.um_tree.proofs.Trees.{Held}

-- each entry is allowed at its path
abbrev pub all_fit : Held → Bool
all_fit m = list_all (λ e. is_fit_entry e.0 e.1) (each path_and_entry m.entries)

module _ (m : Held) (ordered : tree.IsOrdered string_cmp m) where
  fit_told : list_all (λ e. is_fit_entry e.0 e.1) (map.entries (tree_of m.entries)) ≡ all_fit m
  fit_told = ap (list_all (λ e. is_fit_entry e.0 e.1)) (entries-map_of stored_entry m ordered)

  pub no_tree : all_fit m ≡ false → false ≡ is_tree (tree_of m.entries)
  no_tree unfit = sym (ap (λ b. b && nat_le (map.len (tree_of m.entries)) entry_limit) (fit_told ∙ unfit))

  pub tree_if_few : all_fit m ≡ true → nat_le (length m.entries) entry_limit ≡ is_tree (tree_of m.entries)
  tree_if_few fit =
      sym (ap (λ b. b && nat_le (map.len (tree_of m.entries)) entry_limit) (fit_told ∙ fit) ∙ ap (λ n. nat_le n entry_limit) (len-map_of stored_entry m ordered))
