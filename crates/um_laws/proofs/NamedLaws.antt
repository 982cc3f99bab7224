-- A unit name leads to a unit name, and the names in a unit's [Install] section are unit names.
use Rattle.std.proofs.Common.{ℕ, zero, suc, ◌≡◌, Bool, true, false, cond, List, [], ◌∷◌, Option, Some, None, Ok, Err, filter_map, map, refl, sym, ◌∙◌, ap, subst}
use Rattle.std.specs.Option.{option_map_or}
use Rattle.std.proofs.lemmas.Bool.{and_parts}
use Rattle.std.proofs.lemmas.Option.{none-some, same_Some}
use Rattle.std.specs.Str.{bytes_eq}
use Rattle.um_model.specs.Profiles.{ReadTree}
use Rattle.um_model.specs.Install.{install_of}
use Rattle.um_model.specs.Names.{suffix_of, is_unit_name, named}
use Rattle.std.specs.Result.{result_ok}
use Rattle.um_model.specs.Readings.{text_reading, names_reading, read_if}
use Rattle.um_model.specs.Results.{◌and_then◌}
use Rattle.um_model.specs.Resolution.{Resolution, AtFile, AtNoFile, AtMask, Nowhere, held, is_mask, is_of_same_type, is_served_type, shutdown_target, next_name, resolution_at, resolved, hop_limit, resolution_of}
use Rattle.um_model.specs.Tree.{Tree, Entry, File, Link}
use Rattle.um_model.specs.Units.{Source, Assigned, assignments_in, unit_by, loading_at, sources_at, load, named_at, unit_named, InstallSettings, nothing_installed, is_alias_for, install_settings_of}
use Rattle.um_model.specs.Words.{words_of}
use Rattle.um_model.specs.declared.warnings.WarningKind.{WarningKind}
use Rattle.um_model.specs.declared.warnings.WarningKind.TheVariants.{UnreadableValue}
use Rattle.um_model.specs.declared.words.WordRules.TheVariants.{Names}
use Rattle.um_model.proofs.Forms.{found_unless, of_same_type}
use Rattle.um_laws.proofs.AmongLaws.{from_map, from_flat_map, from_filter_map}
use Rattle.um_model.proofs.LeastLaws.{Among}
use Rattle.um_model.specs.FileForms.{Meaning, names_of, names_said}
use Rattle.um_model.specs.FileForms.{unit_reading}

-- ---- where a name leads

-- the unit to which it leads has a unit name
abbrev HasName : Resolution → Type 0
HasName (AtFile unit path text) = is_unit_name unit ≡ true
HasName (AtNoFile unit) = is_unit_name unit ≡ true
HasName (AtMask unit) = is_unit_name unit ≡ true
HasName Nowhere = Unit {0}

module _ (unit : List ℕ) (is : is_unit_name unit ≡ true) (follow : List ℕ → Resolution) (later : (other : List ℕ) → is_unit_name other ≡ true → HasName (follow other)) where
  at_nothing : (b : Bool) → HasName (cond b (AtNoFile unit) Nowhere)
  at_nothing true = is
  at_nothing false = tt

  followed_name : (other : List ℕ) (is_name same : Bool) → is_unit_name other ≡ is_name → is_of_same_type unit other ≡ same
      → HasName (option_map_or follow (of_same_type unit (cond is_name (Some other) None)) Nowhere)
  followed_name other false same e f = tt
  followed_name other true same e f = subst (λ b. HasName (option_map_or follow (cond b (Some other) None) Nowhere)) (sym f) (by_type same)
    where
      by_type : (b : Bool) → HasName (option_map_or follow (cond b (Some other) None) Nowhere)
      by_type true = later other e
      by_type false = tt

  at_link : (target : List ℕ) (b : Bool) → HasName (cond b (AtMask unit) (option_map_or follow (next_name unit target) Nowhere))
  at_link target true = is
  at_link target false = followed_name _ _ _ refl refl

  at_held : (o : Option (List ℕ × Entry)) → HasName (resolution_at unit o follow)
  at_held None = at_nothing (bytes_eq unit shutdown_target)
  at_held (Some (path, File [])) = is
  at_held (Some (path, File (b ∷ bs))) = is
  at_held (Some (path, Link target)) = at_link target (is_mask target)

resolved_name : (hops : ℕ) (tree : Tree) (unit : List ℕ) → is_unit_name unit ≡ true → HasName (resolved hops tree unit)
resolved_name zero tree unit is = at_held unit is (λ other. Nowhere) (λ other named. tt) (held tree unit)
resolved_name (suc hops) tree unit is = at_held unit is (resolved hops tree) (resolved_name hops tree) (held tree unit)

resolution_name : (tree : Tree) (unit : List ℕ) → is_unit_name unit ≡ true → HasName (resolution_of tree unit)
unfolding resolution_of
resolution_name tree unit is = by_type (is_served_type (suffix_of unit))
  where
    by_type : (b : Bool) → HasName (cond b (resolved hop_limit tree unit) Nowhere)
    by_type true = resolved_name hop_limit tree unit is
    by_type false = tt

-- the name that counts for a unit name is a unit name
pub named_by_name : (tree : Tree) (asked : List ℕ) → is_unit_name asked ≡ true → is_unit_name (unit_named tree asked) ≡ true
named_by_name tree asked is = by_resolution (resolution_of tree asked) (resolution_name tree asked is)
  where
    by_resolution : (r : Resolution) → HasName r → is_unit_name (named_at asked r) ≡ true
    by_resolution (AtFile unit path text) named = named
    by_resolution (AtNoFile unit) named = named
    by_resolution (AtMask unit) named = named
    by_resolution Nowhere named = is

-- ---- the names in Also=

read_name : (fits : List ℕ → Bool) (text name : List ℕ) (b : Bool) (warning : WarningKind) → fits text ≡ b → result_ok (cond b (Ok text) (Err warning)) ≡ Some name → fits name ≡ true
read_name fits text name true warning e f = subst (λ t. fits t ≡ true) (same_Some text name f) e
read_name fits text name false warning e f = absurd (none-some name f)

name_of_word : (fits : List ℕ → Bool) (unit word name : List ℕ) (o : Meaning (List ℕ)) → text_reading unit word ≡ o → result_ok (unit_reading fits unit word) ≡ Some name → fits name ≡ true
name_of_word fits unit word name (Err warning) e f =
    absurd (none-some name (sym (ap (λ r. result_ok (r and_then read_if fits)) e) ∙ f))
name_of_word fits unit word name (Ok text) e f =
    read_name fits text name (fits text) UnreadableValue refl (sym (ap (λ r. result_ok (r and_then read_if fits)) e) ∙ f)

-- each name passes the test
names_fit : (fits : List ℕ → Bool) (unit : List ℕ) (values : List (List ℕ)) (name : List ℕ) → Among (names_of fits unit values) name → fits name ≡ true
unfolding names_reading
names_fit fits unit values name is =
    let value = from_flat_map (names_said fits unit) values name is in
    by_words value.0 (words_of Names value.0) value.2
  where
    by_words : (value : List ℕ) (o : Option (List (List ℕ))) → Among (filter_map result_ok (option_map_or (map (unit_reading fits unit)) o (Err UnreadableValue ∷ []))) name → fits name ≡ true
    by_words value None none = absurd none
    by_words value (Some words) is =
        let reading = from_filter_map result_ok (map (unit_reading fits unit) words) name is in
        let word = from_map (unit_reading fits unit) words reading.0 reading.1 in
        name_of_word fits unit word.0 name (text_reading unit word.0) refl (sym (ap result_ok word.2) ∙ reading.2)

-- the names in an [Install] section are unit names
pub record AreNames (install : InstallSettings) : Type 0 where
  pub also : (name : List ℕ) → Among install.also name → is_unit_name name ≡ true
  pub wanted_by : (name : List ℕ) → Among install.wanted_by name → is_unit_name name ≡ true
  pub required_by : (name : List ℕ) → Among install.required_by name → is_unit_name name ≡ true
  pub alias : (name : List ℕ) → Among install.alias name → is_unit_name name ≡ true

none_named : AreNames nothing_installed
none_named = record { also = λ name none. absurd none; wanted_by = λ name none. absurd none; required_by = λ name none. absurd none; alias = λ name none. absurd none }

names_of_section : (unit : List ℕ) (assigned : List Assigned) → AreNames (install_settings_of unit assigned)
unfolding install_settings_of
names_of_section unit assigned = record {
  also = λ name is. names_fit is_unit_name unit _ name is;
  wanted_by = λ name is. names_fit is_unit_name unit _ name is;
  required_by = λ name is. names_fit is_unit_name unit _ name is;
  alias = λ name is. (and_parts (is_unit_name name) (is_of_same_type unit name) (names_fit (is_alias_for unit) unit _ name is)).0;
}

-- also in that of a unit
pub names_installed : (tree : ReadTree) (unit : List ℕ) → AreNames (install_of (load tree unit))
unfolding load
names_installed tree unit = by_resolution (resolution_of tree.entries unit)
  where
    by_reason : (unit path : List ℕ) (sources : List Source) (reason : Option (List ℕ)) → AreNames (install_of (found_unless reason (unit_by tree.profile unit (Some path) sources)))
    by_reason unit path sources None = names_of_section unit (assignments_in (suffix_of unit) sources)
    by_reason unit path sources (Some reason) = none_named

    by_resolution : (r : Resolution) → AreNames (install_of (loading_at tree r))
    by_resolution (AtFile unit path text) = by_reason unit path (sources_at tree.entries (AtFile unit path text)) _
    by_resolution (AtNoFile unit) = none_named
    by_resolution (AtMask unit) = none_named
    by_resolution Nowhere = none_named

-- the names in Also= of a unit are unit names
pub also_names : (tree : ReadTree) (unit name : List ℕ) → Among (install_of (load tree unit)).also name → is_unit_name name ≡ true
also_names tree unit = (names_installed tree unit).also
