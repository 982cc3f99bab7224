-- The weight of a tree is bounded: a path is short, and so is the entry at it.
use Rattle.std.proofs.Common.{◌≡◌, ℕ, ◌+◌, ◌*◌, ◌≤◌, ◌^◌, nat_le, Bool, true, false, not, cond, ◌&&◌, List, [], ◌∷◌, ◌++◌, length, codes, Option, Some, None, is_some, ap, ◌∙◌, refl, length-append, lit≤, arith}
use Rattle.std.specs.Cmp.Lexicographic.{slice_cmp}
use Rattle.std.specs.FinMap as map
use Rattle.std.specs.FinMap.Entries.{where_key}
use Rattle.std.specs.List.{sum_by, list_all}
use Rattle.std.specs.Ordering.{nat_cmp}
use Rattle.std.proofs.lemmas.Bool.{and_parts, leb-true}
use Rattle.std.proofs.lemmas.List.Sums.{sum-map, sum_by-cons}
use Rattle.um_model.specs.Names.{is_unit_name, is_template, name_limit, suffix_of, stem_of, is_stem}
use Rattle.um_model.specs.Tree.{layer_text, Place, Unit, DropIn, Wants, Requires, place_text, PathParts, IsPathOf, path_parts, is_plain_name, is_drop_in_name, is_drop_in_byte, is_fit_place, drop_in_limit, Entry, File, Link, Tree, IsTree, is_fit_entry, is_fit_target, may_lead_to, target_limit, text_limit, is_volatile, without_run}
use Rattle.um_model.specs.declared.tree.Layer.{Layer}
use Rattle.um_model.specs.declared.tree.Layer.TheVariants.{Etc, Run, Lib}
use Rattle.um_model.specs.Weight.{entry_weight, tree_weight}
use Rattle.um_model.proofs.TreeLaws.{entries-fit, entries-retain_keys, path_of_parts, fit-name}

pub short_name : (text : List ℕ) → is_unit_name text ≡ true → length text ≤ 255
unfolding is_unit_name
short_name text is =
    let both = and_parts (nat_le (length text) name_limit && is_some (suffix_of text)) (is_stem (stem_of text)) is in
    leb-true (length text) name_limit (and_parts (nat_le (length text) name_limit) (is_some (suffix_of text)) both.0).0

short_plain : (text : List ℕ) → is_plain_name text ≡ true → length text ≤ 255
short_plain text is = short_name text (and_parts (is_unit_name text) (not (is_template text)) is).0

short_layer : (layer : Layer) → length (layer_text layer) ≡ 4
short_layer Etc = refl
short_layer Run = refl
short_layer Lib = refl

-- of a place that fits its unit
short_place : (unit : List ℕ) (place : Place) → is_fit_place unit place ≡ true → length (place_text place) ≤ 265
short_place unit Unit fit = omega arith
short_place unit (DropIn name) fit =
    let named = (and_parts (is_unit_name unit) (is_drop_in_name name) fit).1 in
    let sized = (and_parts (nat_le 1 (length name) && nat_le (length name) drop_in_limit) (list_all is_drop_in_byte name) named).0 in
    let long : length name ≤ 200 = leb-true (length name) drop_in_limit (and_parts (nat_le 1 (length name)) (nat_le (length name) drop_in_limit) sized).1 in
    let is : length (place_text (DropIn name)) ≡ 3 + (length name + 5) = length-append (codes ".d/") (name ++ codes ".conf") ∙ ap (λ n. 3 + n) (length-append name (codes ".conf")) in
    omega arith
short_place unit (Wants other) fit =
    let long = short_plain other (and_parts (is_plain_name unit) (is_plain_name other) fit).1 in
    let is : length (place_text (Wants other)) ≡ 7 + length other = length-append (codes ".wants/") other in
    omega arith
short_place unit (Requires other) fit =
    let long = short_plain other (and_parts (is_plain_name unit) (is_plain_name other) fit).1 in
    let is : length (place_text (Requires other)) ≡ 10 + length other = length-append (codes ".requires/") other in
    omega arith

short_parts : (path : List ℕ) (p : PathParts) → IsPathOf path p → length path ≤ 524
short_parts path p of =
    let name = short_name p.unit (fit-name p.unit p.place of.fit) in
    let place = short_place p.unit p.place of.fit in
    let layer = short_layer p.layer in
    let is : length path ≡ length (layer_text p.layer) + (length p.unit + length (place_text p.place)) =
    ap length of.spelled ∙ length-append (layer_text p.layer) (p.unit ++ place_text p.place) ∙ ap (λ n. length (layer_text p.layer) + n) (length-append p.unit (place_text p.place)) in
    omega arith

pub short_path : (path : List ℕ) (o : Option PathParts) → path_parts path ≡ o → is_some o ≡ true → length path ≤ 524
short_path path None told some = cc
short_path path (Some p) told some = short_parts path p (path_of_parts path p told)

pub short_target : (path target : List ℕ) (o : Option PathParts) → path_parts path ≡ o → is_fit_target o target ≡ true → (length path ≤ 524) × (length target ≤ 512)
short_target path target None told fit = cc
short_target path target (Some p) told fit =
    let sized = (and_parts (nat_le 1 (length target) && nat_le (length target) target_limit) (may_lead_to p.unit p.place target) fit).0 in (
      short_parts path p (path_of_parts path p told),
      leb-true (length target) target_limit (and_parts (nat_le 1 (length target)) (nat_le (length target) target_limit) sized).1,
    )

-- the path of an entry that may stand there
pub entry_short : (path : List ℕ) (entry : Entry) → is_fit_entry path entry ≡ true → length path ≤ 524
entry_short path (File text) fit = short_path path (path_parts path) refl (and_parts (is_some (path_parts path)) (nat_le (length text) text_limit) fit).0
entry_short path (Link target) fit = (short_target path target (path_parts path) refl fit).0

-- an entry that may stand at its path
pub entry_light : (path : List ℕ) (entry : Entry) → is_fit_entry path entry ≡ true → entry_weight path entry ≤ 2 ^ 17
entry_light path (File text) fit =
    let both = and_parts (is_some (path_parts path)) (nat_le (length text) text_limit) fit in
    let long = leb-true (length text) text_limit both.1 in
    let path_long = short_path path (path_parts path) refl both.0 in
    omega arith
entry_light path (Link target) fit =
    let both = short_target path target (path_parts path) refl fit in
    omega arith

abbrev pub weight_by_entry : List ℕ × Entry → ℕ
weight_by_entry e = entry_weight e.0 e.1

entries_light : (es : List (List ℕ × Entry)) → list_all (λ e. is_fit_entry e.0 e.1) es ≡ true → sum_by weight_by_entry es ≤ length es * 2 ^ 17
entries_light [] fit = lit≤ tt
entries_light (e ∷ es) fit =
    let both = and_parts (is_fit_entry e.0 e.1) _ fit in
    let first = entry_light e.0 e.1 both.0 in
    let rest = entries_light es both.1 in
    let is = sum_by-cons weight_by_entry e es in
    omega (arith, is)

-- a tree
pub tree_light : (tree : Tree) → IsTree tree → tree_weight tree ≤ 2 ^ 29
tree_light tree is =
    let all = entries_light (map.entries tree) (entries-fit tree is) in
    let same : tree_weight tree ≡ sum_by weight_by_entry (map.entries tree) = sum-map weight_by_entry (map.entries tree) in
    let few = is.few in
    let long : map.len tree ≡ length (map.entries tree) = map.len-entries tree in
    omega arith

-- the entries that a test of their paths keeps weigh no more than all
kept_light : (p : List ℕ → Bool) (es : List (List ℕ × Entry)) → sum_by weight_by_entry (where_key (slice_cmp nat_cmp) p es) ≤ sum_by weight_by_entry es
kept_light p [] = lit≤ tt
kept_light p (e ∷ es) = by (p e.0) (kept_light p es)
  where
    by : (b : Bool) → sum_by weight_by_entry (where_key (slice_cmp nat_cmp) p es) ≤ sum_by weight_by_entry es
        → sum_by weight_by_entry (cond b (e ∷ where_key (slice_cmp nat_cmp) p es) (where_key (slice_cmp nat_cmp) p es)) ≤ sum_by weight_by_entry (e ∷ es)
    by true rest = omega (arith, sum_by-cons weight_by_entry e es, sum_by-cons weight_by_entry e (where_key (slice_cmp nat_cmp) p es))
    by false rest = omega (arith, sum_by-cons weight_by_entry e es)

-- so the tree that comes out of a boot
pub without_run_light : (tree : Tree) → tree_weight (without_run tree) ≤ tree_weight tree
unfolding without_run
without_run_light tree =
    let p : List ℕ → Bool = λ path. not (is_volatile path) in
    let less = kept_light p (map.entries tree) in
    let kept = ap (sum_by weight_by_entry) (entries-retain_keys tree p) in
    let before = sum-map weight_by_entry (map.entries tree) in
    let after = sum-map weight_by_entry (map.entries (map.retain_keys tree p)) in
    omega (arith, less, kept, before, after)
