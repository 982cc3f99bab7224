-- A tree with more links that want or require has each unit load as before.
use Rattle.std.proofs.Common.{ℕ, zero, suc, ◌≡◌, ◌≢◌, ◌∙◌, Bool, true, false, cond, List, [], ◌∷◌, ◌++◌, map as each, flat_map, Option, Some, None, option_and_then, Ordering, Less, Equal, Greater, refl, sym, ap, subst}
use Rattle.std.specs.Option.{option_map_or, option_or}
use Rattle.std.specs.FinMap as map
use Rattle.std.specs.Cmp.Lexicographic.{slice_cmp, nat_list_cmp_total}
use Rattle.std.specs.Ordering.{nat_cmp, is_eq}
use Rattle.std.specs.Prelude.{option_map}
use Rattle.um_model.specs.Names.{is_unit_name, suffix_of, instance_of, template_of, with_instance}
use Rattle.um_model.specs.Resolution.{Resolution, AtFile, AtNoFile, AtMask, Nowhere, unit_path, held_in, first_held, unless_to_template, held, is_mask, is_of_same_type, is_served_type, next_name, resolution_at, resolved, hop_limit, resolution_of, UnitFile, drop_in_folders, drop_in_at, drop_ins_in, drop_ins_of, files_at}
use Rattle.um_model.specs.Tree.{Tree, Entry, File, Link, behind}
use Rattle.um_model.specs.Units.{Found, source_of, loading_by_file, unit_by, loading_at, load}
use Rattle.um_model.specs.Profiles.{read_by}
use Rattle.um_model.specs.declared.profile.Profile.{Profile}
use Rattle.um_model.specs.declared.tree.Layer.{Layer}
use Rattle.um_model.specs.declared.tree.Layer.TheVariants.{Etc, Run, Lib}
use Rattle.um_model.proofs.NamesLaws.{is_unit_name-template}
use Rattle.um_model.proofs.Forms.{of_same_type, drop_in_named}
use Rattle.um_model.specs.FileForms.{without_install}

-- ---- drop-ins: a link is none

no_drop_in : (o : Option (List ℕ)) (path target : List ℕ) → drop_in_named o (path, Link target) ≡ []
no_drop_in None path target = refl
no_drop_in (Some file) path target = refl

no_drop_in_at : (folder path target : List ℕ) → drop_in_at folder (path, Link target) ≡ []
no_drop_in_at folder path target = no_drop_in (behind folder path) path target

abbrev Entries : Type 0
Entries = List (List ℕ × Entry)

-- no file stands at the path
abbrev pub HasNoFile : Option Entry → Type 0
HasNoFile o = (text : List ℕ) → o ≢ Some (File text)

-- a link in the place of a link, or of nothing, adds and takes no drop-in
module _ (folder path target : List ℕ) where
  abbrev drop_ins : Entries → List (List ℕ × UnitFile)
  drop_ins = flat_map (drop_in_at folder)

  abbrev chosen : Ordering → Entries → Entries → Entries → Entries
  chosen Less a b c = a
  chosen Equal a b c = b
  chosen Greater a b c = c

  in_place : (at : List ℕ) (old : Entry) (es : Entries) → HasNoFile (Some old) → drop_ins ((at, Link target) ∷ es) ≡ drop_ins ((at, old) ∷ es)
  in_place at (File text) es isnt = absurd (isnt text refl)
  in_place at (Link old) es isnt = ap (λ ds. ds ++ drop_ins es) (no_drop_in_at folder at target ∙ sym (no_drop_in_at folder at old))

  abbrev found_at : Ordering → Entry → Entries → Option Entry
  found_at r entry es = cond (is_eq r) (Some entry) (map.find (slice_cmp nat_cmp) path es)

  at_entry : (at : List ℕ) (entry : Entry) (es more : Entries) (r : Ordering) → HasNoFile (found_at r entry es) → (HasNoFile (map.find (slice_cmp nat_cmp) path es) → drop_ins more ≡ drop_ins es)
      → drop_ins (chosen r ((path, Link target) ∷ (at, entry) ∷ es) ((at, Link target) ∷ es) ((at, entry) ∷ more)) ≡ drop_ins ((at, entry) ∷ es)
  at_entry at entry es more Less none later = ap (λ ds. ds ++ drop_ins ((at, entry) ∷ es)) (no_drop_in_at folder path target)
  at_entry at entry es more Equal none later = in_place at entry es none
  at_entry at entry es more Greater none later = ap (λ ds. drop_in_at folder (at, entry) ++ ds) (later none)

  link_put : (es : Entries) → HasNoFile (map.find (slice_cmp nat_cmp) path es) → drop_ins (map.put (slice_cmp nat_cmp) path (Link target) es) ≡ drop_ins es
  link_put [] none = ap (λ ds. ds ++ []) (no_drop_in_at folder path target)
  link_put ((at, entry) ∷ es) none = at_entry at entry es (map.put (slice_cmp nat_cmp) path (Link target) es) (slice_cmp nat_cmp path at) none (link_put es)

  pub link_inserted : (tree : Tree) → HasNoFile (map.get tree path) → drop_ins_in (map.insert tree path (Link target)) folder ≡ drop_ins_in tree folder
  link_inserted tree none =
      ap drop_ins (map.entries-insert nat_list_cmp_total tree path (Link target))
      ∙ link_put (map.entries tree) (subst HasNoFile (map.get-entries tree path) none)

-- ---- two trees that hold the same of each unit name, and have the same drop-ins

pub record LooksAs (u tree : Tree) : Type 0 where
  pub holds : (layer : Layer) (unit : List ℕ) → is_unit_name unit ≡ true → map.get u (unit_path layer unit) ≡ map.get tree (unit_path layer unit)
  pub drop_ins : (folder : List ℕ) → drop_ins_in u folder ≡ drop_ins_in tree folder

module _ (u tree : Tree) (same : LooksAs u tree) where
  same_held_in : (layer : Layer) (unit : List ℕ) → is_unit_name unit ≡ true → held_in layer u unit ≡ held_in layer tree unit
  same_held_in layer unit is = ap (option_map (λ e. (unit_path layer unit, e))) (same.holds layer unit is)

  same_first : (unit : List ℕ) → is_unit_name unit ≡ true → first_held u unit ≡ first_held tree unit
  same_first unit is = λ i. option_or (same_held_in Etc unit is i) (option_or (same_held_in Run unit is i) (same_held_in Lib unit is i))

  same_of_template : (unit : List ℕ) (o : Option (List ℕ)) → is_unit_name unit ≡ true → instance_of unit ≡ o
      → option_and_then (first_held u) (option_map (λ instance. with_instance unit []) o) ≡ option_and_then (first_held tree) (option_map (λ instance. with_instance unit []) o)
  same_of_template unit None is e = refl
  same_of_template unit (Some instance) is e = same_first (with_instance unit []) (is_unit_name-template unit instance is e)

  same_held : (unit : List ℕ) → is_unit_name unit ≡ true → held u unit ≡ held tree unit
  same_held unit is = λ i. option_or (unless_to_template (template_of unit) (same_first unit is i)) (same_of_template unit (instance_of unit) is refl i)

  module _ (unit : List ℕ) (follow other : List ℕ → Resolution) (later : (name : List ℕ) → is_unit_name name ≡ true → follow name ≡ other name) where
    same_followed : (name : List ℕ) (is_name is_same : Bool) → is_unit_name name ≡ is_name → is_of_same_type unit name ≡ is_same
        → option_map_or follow (of_same_type unit (cond is_name (Some name) None)) Nowhere ≡ option_map_or other (of_same_type unit (cond is_name (Some name) None)) Nowhere
    same_followed name false is_same e f = refl
    same_followed name true is_same e f = by_type (is_of_same_type unit name)
      where
        by_type : (b : Bool) → option_map_or follow (cond b (Some name) None) Nowhere ≡ option_map_or other (cond b (Some name) None) Nowhere
        by_type true = later name e
        by_type false = refl

    same_link : (target : List ℕ) (b : Bool) → cond b (AtMask unit) (option_map_or follow (next_name unit target) Nowhere) ≡ cond b (AtMask unit) (option_map_or other (next_name unit target) Nowhere)
    same_link target true = refl
    same_link target false = same_followed _ _ _ refl refl

    same_at : (o : Option (List ℕ × Entry)) → resolution_at unit o follow ≡ resolution_at unit o other
    same_at None = refl
    same_at (Some (path, File [])) = refl
    same_at (Some (path, File (b ∷ bs))) = refl
    same_at (Some (path, Link target)) = same_link target (is_mask target)

  same_resolved : (hops : ℕ) (unit : List ℕ) → is_unit_name unit ≡ true → resolved hops u unit ≡ resolved hops tree unit
  same_resolved zero unit is = ap (λ o. resolution_at unit o (λ other. Nowhere)) (same_held unit is)
  same_resolved (suc hops) unit is =
      ap (λ o. resolution_at unit o (resolved hops u)) (same_held unit is) ∙ same_at unit (resolved hops u) (resolved hops tree) (same_resolved hops) (held tree unit)

  same_resolution : (unit : List ℕ) → is_unit_name unit ≡ true → resolution_of u unit ≡ resolution_of tree unit
  unfolding resolution_of
  same_resolution unit is = ap (λ r. cond (is_served_type (suffix_of unit)) r Nowhere) (same_resolved hop_limit unit is)

  same_drop_ins : (unit : List ℕ) → drop_ins_of u unit ≡ drop_ins_of tree unit
  unfolding drop_ins_of
  same_drop_ins unit = λ i. map.from_entries (flat_map (λ folder. same.drop_ins folder i) (drop_in_folders unit))

  same_files : (r : Resolution) → files_at u r ≡ files_at tree r
  same_files (AtFile unit path text) = ap (λ ds. record { path = path; text = text } ∷ map.values ds) (same_drop_ins unit)
  same_files (AtNoFile unit) = ap map.values (same_drop_ins unit)
  same_files (AtMask unit) = refl
  same_files Nowhere = refl

  same_loading : (profile : Profile) (r : Resolution) → loading_at (read_by profile u) r ≡ loading_at (read_by profile tree) r
  same_loading profile (AtFile unit path text) = ap (λ files. loading_by_file profile unit path (each source_of files)) (same_files (AtFile unit path text))
  same_loading profile (AtNoFile unit) = ap (λ files. Found (without_install (unit_by profile unit None (each source_of files)))) (same_files (AtNoFile unit))
  same_loading profile (AtMask unit) = refl
  same_loading profile Nowhere = refl

  -- each unit loads as in the other, by whatever profile both are read
  pub loads_as : (profile : Profile) (unit : List ℕ) → is_unit_name unit ≡ true → load (read_by profile u) unit ≡ load (read_by profile tree) unit
  unfolding load
  loads_as profile unit is = ap (loading_at (read_by profile u)) (same_resolution unit is) ∙ same_loading profile (resolution_of tree unit)
