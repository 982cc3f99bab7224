-- The drop-ins of a folder are among the entries whose paths begin with its path and a slash.
use Rattle.std.proofs.Common.{◌≡◌, ℕ, List, [], ◌∷◌, ◌++◌, Bool, true, false, cond, filter, refl, sym, ap, ◌∙◌}
use Rattle.std.specs.FinMap as map
use Rattle.std.specs.List.{flat_map, starts_with}
use Rattle.std.specs.Prelude.{nat_eq}
use Rattle.um_model.specs.Resolution as model
use Rattle.um_model.specs.Tree.{Tree, Entry, File, Link}
use Rattle.um_resolve.specs.View.{ByFile, added}

none_elsewhere : (front : List ℕ) (e : List ℕ × Entry) → starts_with nat_eq e.0 front ≡ false → model.drop_in_at front e ≡ []
none_elsewhere front (path, File text) h = rw h refl
none_elsewhere front (path, Link target) h = refl

one_more : (front : List ℕ) (e : List ℕ × Entry) (ys es : List (List ℕ × Entry)) (b : Bool) → starts_with nat_eq e.0 front ≡ b
    → flat_map (model.drop_in_at front) ys ≡ flat_map (model.drop_in_at front) es
    → flat_map (model.drop_in_at front) (cond b (e ∷ ys) ys) ≡ model.drop_in_at front e ++ flat_map (model.drop_in_at front) es
one_more front e ys es true h same = ap (λ rest. model.drop_in_at front e ++ rest) same
one_more front e ys es false h same = same ∙ sym (ap (λ here. here ++ flat_map (model.drop_in_at front) es) (none_elsewhere front e h))

pub in_folder : (front : List ℕ) (es : List (List ℕ × Entry))
    → flat_map (model.drop_in_at front) (filter (λ e. starts_with nat_eq e.0 front) es) ≡ flat_map (model.drop_in_at front) es
in_folder front [] = refl
in_folder front (e ∷ es) = one_more front e (filter (λ e. starts_with nat_eq e.0 front) es) es (starts_with nat_eq e.0 front) refl (in_folder front es)

-- once all of the folder's entries are added, its drop-ins are
pub folder_added : (now old : ByFile) (tree : Tree) (folder front : List ℕ) (rest all : List (List ℕ × Entry)) → front ≡ folder → rest ≡ []
    → all ≡ filter (λ e. starts_with nat_eq e.0 folder) (map.entries tree)
    → added now (flat_map (model.drop_in_at front) rest) ≡ added old (flat_map (model.drop_in_at front) all) → now ≡ added old (model.drop_ins_in tree folder)
folder_added now old tree folder front rest all f r a same =
    ap (λ es. added now (flat_map (model.drop_in_at front) es)) (sym r) ∙ same ∙ ap (λ es. added old (flat_map (model.drop_in_at front) es)) a
    ∙ ap (λ text. added old (flat_map (model.drop_in_at text) (filter (λ e. starts_with nat_eq e.0 folder) (map.entries tree)))) f ∙ ap (added old) (in_folder folder (map.entries tree))
