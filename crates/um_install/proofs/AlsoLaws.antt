-- The names in Also= are unit names.
use Rattle.std.proofs.Common.{◌≡◌, ◌∙◌, ℕ, Bool, true, false, cond, List, [], ◌∷◌, map as each, Contains, Option, Some, None, Ok, Err, refl, sym, ap, arith}
use Rattle.std.specs.List.{filter_map}
use Rattle.um_model.specs.Profiles.{ReadTree}
use Rattle.um_model.specs.Install.{install_of}
use Rattle.um_model.specs.Names.{is_unit_name}
use Rattle.std.specs.Result.{result_ok}
use Rattle.um_model.specs.declared.warnings.WarningKind.{WarningKind}
use Rattle.um_model.specs.Readings.{text_reading, names_reading, read_if}
use Rattle.um_model.specs.Results.{◌and_then◌}
use Rattle.um_model.specs.Resolution.{Resolution, AtFile, AtNoFile, AtMask, Nowhere, resolution_of}
use Rattle.um_model.specs.Tree.{Tree}
use Rattle.um_model.specs.Units.{Assigned, LoadedUnit, load, loading_at, name_in, unit_named, install_settings_of, unit_by, sources_at, assignments_in}
use Rattle.um_model.specs.Names.{suffix_of}
use Rattle.um_model.specs.Words.{words_of}
use Rattle.um_model.specs.declared.words.WordRules.TheVariants.{Names}
use Rattle.um_model.specs.declared.warnings.WarningKind.TheVariants.{UnreadableValue}
use Rattle.um_model.proofs.Forms.{found_unless}
use Rattle.std.proofs.lemmas.Option.{same_Some, none-some}
use Rattle.std.specs.Option.{option_map_or}
use Rattle.um_install.proofs.Members.{each_contains, filter_map_contains, flat_contains}
use Rattle.um_model.specs.FileForms.{Meaning, names_of, names_said}
use Rattle.um_model.specs.FileForms.{unit_reading}

none_in : (name : List ℕ) → Contains [] name → ⊥
none_in name (k, h, e) = omega arith

-- the reading of a word is a name that fits
module _ (fits : List ℕ → Bool) (unit : List ℕ) where
  by_test : (b : Bool) (text name : List ℕ) → fits text ≡ b → result_ok {T = List ℕ} {E = WarningKind} (cond b (Ok text) (Err UnreadableValue)) ≡ Some name → fits name ≡ true
  by_test true text name t e = ap fits (sym (same_Some text name e)) ∙ t
  by_test false text name t e = absurd (none-some name e)

  by_reading : (r : Meaning (List ℕ)) (name : List ℕ) → result_ok (r and_then read_if fits) ≡ Some name → fits name ≡ true
  by_reading (Ok text) name e = by_test (fits text) text name refl e
  by_reading (Err w) name e = absurd (none-some name e)

  in_words : (words : Option (List (List ℕ))) (name : List ℕ) → Contains (filter_map result_ok (option_map_or (each (unit_reading fits unit)) words (Err UnreadableValue ∷ []))) name → fits name ≡ true
  in_words None name c = absurd (none_in name c)
  in_words (Some words) name c =
      let r = filter_map_contains result_ok (each (unit_reading fits unit) words) name c in
      let w = each_contains (unit_reading fits unit) words r.0 r.1 in
      by_reading (text_reading unit w.0) name (ap result_ok w.2 ∙ r.2)

  in_value : (value name : List ℕ) → Contains (names_said fits unit value) name → fits name ≡ true
  unfolding names_reading
  in_value value name c = in_words (words_of Names value) name c

  pub in_values : (values : List (List ℕ)) (name : List ℕ) → Contains (names_of fits unit values) name → fits name ≡ true
  in_values values name c = let r = flat_contains (names_said fits unit) values name c in in_value r.0 name r.2

in_install : (unit : List ℕ) (assigned : List Assigned) (name : List ℕ) → Contains (install_settings_of unit assigned).also name → is_unit_name name ≡ true
unfolding install_settings_of
in_install unit assigned name c = in_values is_unit_name unit _ name c

in_found : (reason : Option (List ℕ)) (u : LoadedUnit) (name : List ℕ) → (Contains u.settings.install.also name → is_unit_name name ≡ true)
    → Contains (install_of (found_unless reason u)).also name → is_unit_name name ≡ true
in_found None u name h c = h c
in_found (Some reason) u name h c = absurd (none_in name c)

in_loading : (tree : ReadTree) (r : Resolution) (name : List ℕ) → Contains (install_of (loading_at tree r)).also name → is_unit_name name ≡ true
in_loading tree (AtFile unit path text) name c =
    in_found _ (unit_by tree.profile unit (Some path) (sources_at tree.entries (AtFile unit path text))) name
    (in_install unit (assignments_in (suffix_of unit) (sources_at tree.entries (AtFile unit path text))) name) c
in_loading tree (AtNoFile unit) name c = absurd (none_in name c)
in_loading tree (AtMask unit) name c = absurd (none_in name c)
in_loading tree Nowhere name c = absurd (none_in name c)

-- the names in a unit's Also= are unit names
pub also_is_name : (tree : ReadTree) (unit name : List ℕ) → Contains (install_of (load tree unit)).also name → is_unit_name name ≡ true
unfolding load
also_is_name tree unit name c = in_loading tree (resolution_of tree.entries unit) name c
