-- The names that a unit's settings give are unit names.
use Rattle.std.proofs.Common.{◌≡◌, ◌∙◌, ℕ, Bool, true, false, List, [], ◌∷◌, map, Contains, Option, Some, None, Ok, Err, if◌then◌else◌, refl, sym, ap, subst, inl, inr, codes}
use Rattle.std.specs.Prelude.{filter_map}
use Rattle.std.specs.List.{cons_option}
use Rattle.um_model.specs.Profiles.{ReadTree}
use Rattle.um_model.specs.Dependencies.{loadable_of, loadable_in, names_in}
use Rattle.um_model.specs.Names.{is_template, is_unit_name, suffix_of}
use Rattle.std.specs.Result.{result_ok}
use Rattle.std.specs.Option.{option_map_or}
use Rattle.um_model.specs.declared.warnings.WarningKind.{WarningKind}
use Rattle.um_model.specs.Readings.{names_reading, text_reading, read_if}
use Rattle.um_model.specs.Results.{◌and_then◌}
use Rattle.um_model.specs.Resolution.{Resolution, AtFile, AtNoFile, AtMask, Nowhere, resolution_of}
use Rattle.um_model.specs.Units.{Assigned, Dependencies, LoadedUnit, Loading, Found, Masked, NotFound, BadSetting, Source, assignments_in, dependencies_of, load, loading_at, reason_of, sources_at, unit_by, units_named, values_of}
use Rattle.um_model.specs.Words.{words_of}
use Rattle.um_model.specs.declared.dependencies.DependencyKind.{DependencyKind}
use Rattle.um_model.specs.declared.dependencies.DependencyKind.TheVariants as kinds
use Rattle.um_model.specs.declared.warnings.WarningKind.TheVariants.{UnreadableValue}
use Rattle.um_model.specs.declared.words.WordRules.TheVariants.{Names}
use Rattle.um_model.proofs.Forms.{found_unless}
use Rattle.um_graph.proofs.ListLaws.{flat_contains, in_none, in_cons}
use Rattle.um_model.specs.FileForms.{Meaning, names_said}
use Rattle.um_model.specs.FileForms.{unit_reading}
use Rattle.um_model.specs.FileForms.{without_install}

-- ---- the names in a value
module _ (fits : List ℕ → Bool) (unit : List ℕ) where
  tested : (text y : List ℕ) (b : Bool) → fits text ≡ b → result_ok {T = List ℕ} {E = WarningKind} (if b then Ok text else Err UnreadableValue) ≡ Some y → fits y ≡ true
  tested text y true t h = let same : text ≡ y = cc in sym (ap fits same) ∙ t
  tested text y false t h = cc

  read_fits : (word y : List ℕ) → result_ok (unit_reading fits unit word) ≡ Some y → fits y ≡ true
  read_fits word y h = by (text_reading unit word) h
    where
      by : (r : Meaning (List ℕ)) → result_ok (r and_then read_if fits) ≡ Some y → fits y ≡ true
      by (Err w) h = cc
      by (Ok text) h = tested text y (fits text) refl h

  words_fit : (words : List (List ℕ)) (y : List ℕ) → Contains (filter_map result_ok (map (unit_reading fits unit) words)) y → fits y ≡ true
  words_fit [] y c = absurd (in_none y c)
  words_fit (word ∷ words) y c = by (result_ok (unit_reading fits unit word)) refl (words_fit words y) c
    where
      by : (o : Option (List ℕ)) → result_ok (unit_reading fits unit word) ≡ o → (Contains (filter_map result_ok (map (unit_reading fits unit) words)) y → fits y ≡ true)
          → Contains (cons_option o (filter_map result_ok (map (unit_reading fits unit) words))) y → fits y ≡ true
      by None e rest c = rest c
      by (Some z) e rest c = elim (in_cons z (filter_map result_ok (map (unit_reading fits unit) words)) y c) as (λ _. fits y ≡ true) [
        | inl same ↦ read_fits word y (e ∙ ap Some same)
        | inr later ↦ rest later
      ]

  value_fits : (value y : List ℕ) → Contains (names_said fits unit value) y → fits y ≡ true
  unfolding names_reading
  value_fits value y c = by (words_of Names value) c
    where
      by : (o : Option (List (List ℕ))) → Contains (filter_map result_ok (option_map_or (map (unit_reading fits unit)) o (Err UnreadableValue ∷ []))) y → fits y ≡ true
      by None c = absurd (in_none y c)
      by (Some words) c = words_fit words y c

-- ---- the names in the settings
module _ (unit : List ℕ) (assigned : List Assigned) where
  named_are : (key y : List ℕ) → Contains (units_named key unit assigned) y → is_unit_name y ≡ true
  named_are key y c = let r = flat_contains (names_said is_unit_name unit) (values_of ((codes "Unit", key) ∷ []) assigned) y c in value_fits is_unit_name unit r.0 y r.2

-- each name given is a unit name
pub record AreNames (d : Dependencies) : Type 0 where
  pub needs : (kind : DependencyKind) (y : List ℕ) → Contains (names_in kind d) y → is_unit_name y ≡ true
  pub before : (y : List ℕ) → Contains d.before y → is_unit_name y ≡ true
  pub after : (y : List ℕ) → Contains d.after y → is_unit_name y ≡ true

are_names : (unit : List ℕ) (assigned : List Assigned) → AreNames (dependencies_of unit assigned)
unfolding dependencies_of
are_names unit assigned = record { needs = by; before = named_are unit assigned (codes "Before"); after = named_are unit assigned (codes "After") }
  where
    by : (kind : DependencyKind) (y : List ℕ) → Contains (names_in kind (dependencies_of unit assigned)) y → is_unit_name y ≡ true
    by kinds.Wants y c = named_are unit assigned (codes "Wants") y c
    by kinds.Requires y c = named_are unit assigned (codes "Requires") y c
    by kinds.BindsTo y c = named_are unit assigned (codes "BindsTo") y c
    by kinds.PartOf y c = named_are unit assigned (codes "PartOf") y c
    by kinds.Conflicts y c = named_are unit assigned (codes "Conflicts") y c

names_by : (u l : LoadedUnit) → AreNames u.settings.dependencies → u ≡ l → AreNames l.settings.dependencies
names_by u l a e = subst (λ (v : LoadedUnit). AreNames v.settings.dependencies) e a

found_names : (tree : ReadTree) (r : Resolution) (l : LoadedUnit) → loading_at tree r ≡ Found l → AreNames l.settings.dependencies
found_names tree (AtFile unit path text) l h = by (reason_of tree.profile unit assigned) h
  where
    sources : List Source
    sources = sources_at tree.entries (AtFile unit path text)

    assigned : List Assigned
    assigned = assignments_in (suffix_of unit) sources

    by : (o : Option (List ℕ)) → found_unless o (unit_by tree.profile unit (Some path) sources) ≡ Found l → AreNames l.settings.dependencies
    by None h = names_by (unit_by tree.profile unit (Some path) sources) l (are_names unit assigned) cc
    by (Some reason) h = cc
found_names tree (AtNoFile unit) l h =
    let sources = sources_at tree.entries (AtNoFile unit) in
    names_by (without_install (unit_by tree.profile unit None sources)) l (are_names unit (assignments_in (suffix_of unit) sources)) cc
found_names tree (AtMask unit) l h = cc
found_names tree Nowhere l h = cc

loadable_found : (o : Loading) (l : LoadedUnit) → loadable_of o ≡ Some l → o ≡ Found l
loadable_found (Found u) l h = by (is_template u.name) h
  where
    by : (b : Bool) → (if b then None else Some u) ≡ Some l → Found u ≡ Found l
    by true h = cc
    by false h = cc
loadable_found (Masked unit) l h = cc
loadable_found NotFound l h = cc
loadable_found (BadSetting unit reason) l h = cc

pub names_of_loadable : (tree : ReadTree) (a : List ℕ) (l : LoadedUnit) → loadable_in tree a ≡ Some l → AreNames l.settings.dependencies
unfolding load
names_of_loadable tree a l h = found_names tree (resolution_of tree.entries a) l (loadable_found (load tree a) l h)
