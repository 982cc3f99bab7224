-- Unit names and served paths are of ASCII bytes, so they are texts in UTF-8.
use Rattle.std.proofs.Common.{ℕ, ◌≡◌, ◌∙◌, ◌<◌, Bool, true, nat_lt, List, [], ◌∷◌, ◌++◌, codes, Option, Some, None, is_some, refl, sym, subst, arith}
use Rattle.std.specs.List.{list_all}
use Rattle.std.specs.Str.{IsAscii, is_utf8}
use Rattle.std.proofs.lemmas.Bool.{and_parts, and_from, ltb-true, lt-ltb}
use Rattle.std.proofs.lemmas.Bool.Decides.{nat_tests}
use Rattle.std.proofs.lemmas.List.Folds.{list_all-append}
use Rattle.std.proofs.lemmas.Str.{IsUtf8-from_ascii, is_utf8-from_IsUtf8}
use Rattle.std.proofs.lemmas.Str.Ascii.{IsAscii-nil, IsAscii-cons}
use Rattle.um_model.specs.Names.{is_instance_byte, is_prefix_byte, suffix_text, is_unit_name, NameParts, IsNameOf}
use Rattle.um_model.specs.Tree.{layer_text, Place, Unit, DropIn, Wants, Requires, place_text, PathParts, IsPathOf, path_parts, is_plain_name, is_drop_in_name, is_drop_in_byte, is_fit_place}
use Rattle.um_model.specs.declared.names.Suffix.{Suffix}
use Rattle.um_model.specs.declared.names.Suffix.TheVariants.{Service, Socket, Device, Mount, Automount, Swap, Target, Path, Timer, Slice, Scope}
use Rattle.um_model.specs.declared.tree.Layer.{Layer}
use Rattle.um_model.specs.declared.tree.Layer.TheVariants.{Etc, Run, Lib}
use Rattle.um_model.proofs.NamesLaws.{named_by_parts}
use Rattle.um_model.proofs.TreeLaws.{path_of_parts, fit-name}
use Rattle.um_model.proofs.Forms.{instance_text, is_fit_instance}

-- a byte of ASCII
abbrev pub is_low : ℕ → Bool
is_low b = nat_lt b 128

-- all bytes are of ASCII
abbrev pub AreLow : List ℕ → Type 0
AreLow bs = list_all is_low bs ≡ true

low_instance : (b : ℕ) → is_instance_byte b ≡ true → b < 128
low_instance b is = grind (arith, nat_tests)

low_drop_in : (b : ℕ) → is_drop_in_byte b ≡ true → b < 128
low_drop_in b is = grind (arith, nat_tests)

low_prefix : (b : ℕ) → is_prefix_byte b ≡ true → b < 128
low_prefix b is = grind (arith, nat_tests)

all_low : (test : ℕ → Bool) → ((b : ℕ) → test b ≡ true → b < 128) → (bs : List ℕ) → list_all test bs ≡ true → AreLow bs
all_low test low [] all = refl
all_low test low (b ∷ bs) all =
    let both = and_parts (test b) (list_all test bs) all in
    and_from _ _ (lt-ltb b 128 (low b both.0)) (all_low test low bs both.1)

low_ascii : (bs : List ℕ) → AreLow bs → IsAscii bs
low_ascii [] all = IsAscii-nil
low_ascii (b ∷ bs) all =
    let both = and_parts (is_low b) (list_all is_low bs) all in
    IsAscii-cons b bs (ltb-true b 128 both.0) (low_ascii bs both.1)

pub low_utf8 : (bs : List ℕ) → AreLow bs → is_utf8 bs ≡ true
low_utf8 bs all = is_utf8-from_IsUtf8 bs (IsUtf8-from_ascii bs (low_ascii bs all))

both_low : (front bs : List ℕ) → AreLow front → AreLow bs → AreLow (front ++ bs)
both_low front bs h k = list_all-append is_low front bs ∙ and_from _ _ h k

-- ---- a name

suffix_low : (s : Suffix) → AreLow (suffix_text s)
suffix_low Service = refl
suffix_low Socket = refl
suffix_low Device = refl
suffix_low Mount = refl
suffix_low Automount = refl
suffix_low Swap = refl
suffix_low Target = refl
suffix_low Path = refl
suffix_low Timer = refl
suffix_low Slice = refl
suffix_low Scope = refl

instance_low : (i : Option (List ℕ)) → is_fit_instance i ≡ true → AreLow (instance_text i)
instance_low None fit = refl
instance_low (Some i) fit = all_low is_instance_byte low_instance i fit

parts_low : (text : List ℕ) (p : NameParts) → IsNameOf text p → AreLow text
parts_low text p of =
    subst AreLow (sym of.spelled)
    (both_low p.prefix (instance_text p.instance ++ suffix_text p.suffix) (all_low is_prefix_byte low_prefix p.prefix of.fit.prefix_bytes)
    (both_low (instance_text p.instance) (suffix_text p.suffix) (instance_low p.instance of.fit.instance_bytes) (suffix_low p.suffix)))

name_low : (text : List ℕ) → is_unit_name text ≡ true → AreLow text
name_low text is = let p = named_by_parts text is in parts_low text p.0 p.1

pub name_utf8 : (text : List ℕ) → is_unit_name text ≡ true → is_utf8 text ≡ true
name_utf8 text is = low_utf8 text (name_low text is)

-- ---- a path

layer_low : (layer : Layer) → AreLow (layer_text layer)
layer_low Etc = refl
layer_low Run = refl
layer_low Lib = refl

plain_low : (text : List ℕ) → is_plain_name text ≡ true → AreLow text
plain_low text is = name_low text (and_parts (is_unit_name text) _ is).0

place_low : (unit : List ℕ) (place : Place) → is_fit_place unit place ≡ true → AreLow (place_text place)
place_low unit Unit fit = refl
place_low unit (DropIn name) fit =
    let named = (and_parts (is_unit_name unit) (is_drop_in_name name) fit).1 in
    both_low (codes ".d/") (name ++ codes ".conf") refl (both_low name (codes ".conf") (all_low is_drop_in_byte low_drop_in name (and_parts _ (list_all is_drop_in_byte name) named).1) refl)
place_low unit (Wants other) fit = both_low (codes ".wants/") other refl (plain_low other (and_parts (is_plain_name unit) (is_plain_name other) fit).1)
place_low unit (Requires other) fit = both_low (codes ".requires/") other refl (plain_low other (and_parts (is_plain_name unit) (is_plain_name other) fit).1)

path_low : (path : List ℕ) (p : PathParts) → IsPathOf path p → AreLow path
path_low path p of =
    subst AreLow (sym of.spelled)
    (both_low (layer_text p.layer) (p.unit ++ place_text p.place) (layer_low p.layer)
    (both_low p.unit (place_text p.place) (name_low p.unit (fit-name p.unit p.place of.fit)) (place_low p.unit p.place of.fit)))

pub parts_utf8 : (path : List ℕ) (o : Option PathParts) → path_parts path ≡ o → is_some o ≡ true → is_utf8 path ≡ true
parts_utf8 path None told some = cc
parts_utf8 path (Some p) told some = low_utf8 path (path_low path p (path_of_parts path p told))
