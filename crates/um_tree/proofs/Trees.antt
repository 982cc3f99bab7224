-- The results of the map's calls, as trees.
use Rattle.std.proofs.Common.{◌≡◌, ℕ, Bool, not, filter, List, Option, Some, None, is_some, option_map, String, Global, string_bytes, string_cmp, Ok, true, refl, ap, ◌∙◌}
use Rattle.std.specs.BTreeMap as tree
use Rattle.std.specs.BTreeMap.{BTreeMap}
use Rattle.std.specs.Cmp.Lexicographic.{slice_cmp}
use Rattle.std.specs.FinMap as map
use Rattle.std.specs.Ordering.{nat_cmp}
use Rattle.um_model.specs.Tree as model
use Rattle.um_model.specs.Tree.{is_volatile, put_link, link_cause, without_run}
use Rattle.um_model.specs.Refusals.{unless_refused}
use Rattle.um_model.proofs.TreeLaws.{link-same}
use Rattle.um_tree.specs.declared.entry.Stored.{Stored}
use Rattle.um_tree.specs.View.{stored_entry, tree_of}
use Rattle.um_tree.proofs.TextMaps.{map_of_filter, map_of_inserted, map_of_removed}

abbrev pub Held : Type 0
Held = BTreeMap (String Global) Stored

-- `bs` are the bytes of the path's copy
pub tree_of_inserted : (m n : Held) (t : model.Tree) (bs path : List ℕ) (entry : Stored) → tree_of m.entries ≡ t → bs ≡ path
    → tree.UpdatesBy string_cmp (λ k. slice_cmp nat_cmp bs (string_bytes k)) m n (Some entry)
    → tree_of n.entries ≡ map.insert t path (stored_entry entry)
tree_of_inserted m n t bs path entry is same updates =
    map_of_inserted stored_entry bs m n entry updates ∙ ap (λ b. map.insert (tree_of m.entries) b (stored_entry entry)) same ∙ ap (λ x. map.insert x path (stored_entry entry)) is

pub tree_of_removed : (m n : Held) (t : model.Tree) (path : List ℕ) → tree_of m.entries ≡ t
    → tree.UpdatesBy string_cmp (λ k. slice_cmp nat_cmp path (string_bytes k)) m n None
    → tree_of n.entries ≡ map.remove t path
tree_of_removed m n t path is updates = map_of_removed stored_entry path m n updates ∙ ap (λ x. map.remove x path) is

-- the link that is there already
pub put_link-same : (t : model.Tree) (path target : List ℕ) → link_cause t path target ≡ None → is_some (map.get t path) ≡ true → put_link t path target ≡ Ok t
unfolding put_link
put_link-same t path target none some =
    ap (λ c. unless_refused c (map.insert t path (model.Link target))) none ∙ ap Ok (link-same t path target none some)

pub is_some-option_map : {X Y : Type 0} (f : X → Y) (o : Option X) → is_some (option_map f o) ≡ is_some o
is_some-option_map f None = refl
is_some-option_map f (Some x) = refl

pub tree_of_cleared : (m n : Held) (t : model.Tree) → tree_of m.entries ≡ t → n.entries ≡ filter (λ e. not (is_volatile (string_bytes e.0))) m.entries → tree_of n.entries ≡ without_run t
unfolding without_run
tree_of_cleared m n t is kept =
    let p : List ℕ → Bool = λ path. not (is_volatile path) in
    ap tree_of kept ∙ map_of_filter stored_entry p m.entries ∙ ap (λ x. map.retain_keys x p) is
