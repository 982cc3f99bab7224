-- Drop-ins by the names of their files, added one after another.
use Rattle.std.proofs.Common.{◌≡◌, ℕ, Bool, true, false, cond, List, [], ◌∷◌, ◌++◌, map as each, Option, Some, None, is_some, option_map, String, string_bytes, string_cmp, refl, sym, ap, ◌∙◌}
use Rattle.std.specs.declared.alloc.Global.{Global}
use Rattle.std.specs.BTreeMap as tree
use Rattle.std.specs.BTreeMap.{BTreeMap}
use Rattle.std.specs.Cmp.Lexicographic.{slice_cmp, nat_list_cmp_total}
use Rattle.std.specs.FinMap as map
use Rattle.std.specs.FinMap.{nat_cmp-IsAntisymmetric, slice_cmp-IsAntisymmetric}
use Rattle.std.specs.Map.{values_of}
use Rattle.std.specs.Ordering.{nat_cmp, eq_by_cmp}
use Rattle.std.proofs.lemmas.Map.Lookups.{exact_bytes}
use Rattle.std.proofs.lemmas.Map.Views.{tells_apart}
use Rattle.std.specs.List.{flat_map}
use Rattle.std.proofs.lemmas.Grind.{flat_map-append}
use Rattle.std.proofs.Common.{append-nil}
use Rattle.std.specs.Option.{option_or}
use Rattle.um_model.specs.Resolution.{UnitFile}
use Rattle.um_tree.proofs.TextMaps.{get-map_of, entries-map_of, map_of_inserted}
use Rattle.um_resolve.specs.View.{ByFile, added, by_file_of, file_and_drop_in, first_kept, text_of}
use Rattle.um_resolve.specs.declared.drop_ins.DropIn as code

is_some-map : {A B : Type 0} (f : A → B) (o : Option A) → is_some (option_map f o) ≡ is_some o
is_some-map f None = refl
is_some-map f (Some x) = refl

-- whether there is one of that file
pub contains_file : (m : BTreeMap (String Global) code.DropIn) (file : List ℕ) → is_some (tree.get_by_text m file) ≡ map.contains_key (by_file_of m.entries) file
contains_file m file = sym (is_some-map text_of (tree.get_by_text m file)) ∙ sym (ap is_some (get-map_of text_of m file))

kept_by : (b : Bool) (m : ByFile) (d : List ℕ × UnitFile) → map.contains_key m d.0 ≡ b → first_kept m d ≡ cond b m (map.insert m d.0 d.1)
kept_by b m d e = ap (λ t. cond t m (map.insert m d.0 d.1)) e

-- if there is one, and if there is none
pub kept_old : (m : ByFile) (d : List ℕ × UnitFile) → map.contains_key m d.0 ≡ true → m ≡ first_kept m d
kept_old m d e = sym (kept_by true m d e)

pub kept_new : (m : ByFile) (d : List ℕ × UnitFile) → map.contains_key m d.0 ≡ false → map.insert m d.0 d.1 ≡ first_kept m d
kept_new m d e = sym (kept_by false m d e)

-- those of two lists
pub added-append : (m : ByFile) (ds es : List (List ℕ × UnitFile)) → added m (ds ++ es) ≡ added (added m ds) es
added-append m [] es = refl
added-append m (d ∷ ds) es = added-append (first_kept m d) ds es

chosen : (b : Bool) (here there : Option UnitFile) (d : UnitFile) → (b ≡ true → here ≡ there) → cond (is_some there) here (cond b (Some d) here) ≡ option_or here (cond b (Some d) None)
chosen true here None d e = rw (e refl) refl
chosen true here (Some x) d e = rw (e refl) refl
chosen false None None d e = refl
chosen false None (Some x) d e = refl
chosen false (Some h) None d e = refl
chosen false (Some h) (Some x) d e = refl

get-cond : (b : Bool) (m n : ByFile) (q : List ℕ) → map.get (cond b m n) q ≡ cond b (map.get m q) (map.get n q)
get-cond true m n q = refl
get-cond false m n q = refl

same_place : (m : ByFile) (q file : List ℕ) → eq_by_cmp (slice_cmp nat_cmp) q file ≡ true → map.get m q ≡ map.get m file
same_place m q file e = ap (map.get m) (tells_apart exact_bytes q file e)

get-first_kept : (m : ByFile) (d : List ℕ × UnitFile) (q : List ℕ) → map.get (first_kept m d) q ≡ option_or (map.get m q) (cond (eq_by_cmp (slice_cmp nat_cmp) q d.0) (Some d.1) None)
get-first_kept m d q =
    get-cond (map.contains_key m d.0) m (map.insert m d.0 d.1) q
    ∙ ap (cond (map.contains_key m d.0) (map.get m q)) (map.get-insert nat_list_cmp_total m d.0 d.1 q)
    ∙ chosen (eq_by_cmp (slice_cmp nat_cmp) q d.0) (map.get m q) (map.get m d.0) d.1 (same_place m q d.0)

or_else-assoc : (b : Bool) (o rest : Option UnitFile) (d : UnitFile) → option_or (option_or o (cond b (Some d) None)) rest ≡ option_or o (cond b (Some d) rest)
or_else-assoc b (Some x) rest d = refl
or_else-assoc true None rest d = refl
or_else-assoc false None rest d = refl

or_else-none : (o : Option UnitFile) → o ≡ option_or o None
or_else-none None = refl
or_else-none (Some x) = refl

get-added : (m : ByFile) (ds : List (List ℕ × UnitFile)) (q : List ℕ) → map.get (added m ds) q ≡ option_or (map.get m q) (map.find (slice_cmp nat_cmp) q ds)
get-added m [] q = or_else-none (map.get m q)
get-added m (d ∷ ds) q =
    get-added (first_kept m d) ds q
    ∙ ap (λ o. option_or o (map.find (slice_cmp nat_cmp) q ds)) (get-first_kept m d q)
    ∙ or_else-assoc (eq_by_cmp (slice_cmp nat_cmp) q d.0) (map.get m q) (map.find (slice_cmp nat_cmp) q ds) d.1

-- all of them, added to nothing
pub added_all : (ds : List (List ℕ × UnitFile)) → added map.empty ds ≡ map.from_entries ds
added_all ds =
    map.same_map nat_list_cmp_total (slice_cmp-IsAntisymmetric nat_cmp-IsAntisymmetric) _ _
    (λ q. get-added map.empty ds q
    ∙ ap (λ o. option_or o (map.find (slice_cmp nat_cmp) q ds)) (map.get-empty (slice_cmp nat_cmp) q)
    ∙ sym (map.get-from_entries nat_list_cmp_total ds q))

values-each : (es : List (String Global × code.DropIn)) → each text_of (values_of es) ≡ each (λ e. e.1) (each file_and_drop_in es)
values-each [] = refl
values-each (e ∷ es) = ap (λ ds. text_of e.1 ∷ ds) (values-each es)

-- after one is put in
pub inserted : (m n : BTreeMap (String Global) code.DropIn) (key file : List ℕ) (d : code.DropIn) → key ≡ file → tree.UpdatesBy string_cmp (λ k. slice_cmp nat_cmp key (string_bytes k)) m n (Some d)
    → by_file_of n.entries ≡ map.insert (by_file_of m.entries) file (text_of d)
inserted m n key file d e u = map_of_inserted text_of key m n d u ∙ ap (λ k. map.insert (by_file_of m.entries) k (text_of d)) e

-- the values in the order of the files
pub values_by_file : (m : BTreeMap (String Global) code.DropIn) → tree.IsOrdered string_cmp m → each text_of (tree.values m) ≡ map.values (by_file_of m.entries)
values_by_file m ordered = values-each m.entries ∙ ap (each (λ e. e.1)) (sym (entries-map_of text_of m ordered))

-- those of three folders
pub added_three : (m n o : ByFile) (ds es fs : List (List ℕ × UnitFile)) → n ≡ added m ds → o ≡ added n es → added o fs ≡ added m (ds ++ (es ++ (fs ++ [])))
added_three m n o ds es fs first second =
    ap (λ x. added x fs) (second ∙ ap (λ x. added x es) first)
    ∙ ap (added (added (added m ds) es)) (sym (append-nil fs))
    ∙ sym (added-append m ds (es ++ (fs ++ [])) ∙ added-append (added m ds) es (fs ++ []))

-- those of some folders and of others, added to nothing
pub added_both : (f : List ℕ → List (List ℕ × UnitFile)) (folders others : List (List ℕ)) (m n o : ByFile) → m ≡ map.empty → n ≡ added m (flat_map f folders) → o ≡ added n (flat_map f others)
    → o ≡ map.from_entries (flat_map f (folders ++ others))
added_both f folders others m n o none first second =
    second
    ∙ ap (λ x. added x (flat_map f others)) (first ∙ ap (λ x. added x (flat_map f folders)) none)
    ∙ sym (added-append map.empty (flat_map f folders) (flat_map f others))
    ∙ ap (added map.empty) (sym (flat_map-append f folders others))
    ∙ added_all (flat_map f (folders ++ others))
