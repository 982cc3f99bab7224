-- The items of an unknown section have no effect: item by item, or sorted out of the file.
use Rattle.std.proofs.Common.{◌≡◌, ℕ, Bool, true, false, cond, List, [], ◌∷◌, ◌++◌, filter, map, Option, Some, None, refl, sym, ap, ◌∙◌}
use Rattle.std.specs.List.{flat_map}
use Rattle.um_model.specs.FileForms.{in_sections, section_past, warnings_of}
use Rattle.um_model.specs.Keys.{is_known_section}
use Rattle.um_model.specs.Names.{suffix_of}
use Rattle.um_model.specs.Syntax.{Item, Section, Assignment, Warned, Placed, line_number}
use Rattle.um_model.specs.Units as model
use Rattle.um_model.specs.declared.names.Suffix.{Suffix}
use Rattle.um_model.specs.declared.profile.Profile.{Profile}
use Rattle.um_model.specs.declared.warnings.WarningKind.{WarningKind}
use Rattle.um_syntax.specs.Items.{item_of}
use Rattle.um_syntax.specs.declared.items.Item.{Item as Read}
use Rattle.um_syntax.specs.declared.items.Item.TheVariants as read
use Rattle.um_unit.specs.Sources.{assigned_by, assigned_in, says}
use Rattle.um_unit.specs.Tests.{warned_in, warning_of, warnings_at}

module _ {A B : Type 0} (passes : A → Bool) (all some : A → List B) (same : (x : A) → all x ≡ cond (passes x) (some x) []) where
  one : (x : A) (xs : List A) (b : Bool) → cond b (some x) [] ++ flat_map some (filter passes xs) ≡ flat_map some (cond b (x ∷ filter passes xs) (filter passes xs))
  one x xs true = refl
  one x xs false = refl

  -- the results of all, or of those alone that pass
  sorted_out : (xs : List A) → flat_map all xs ≡ flat_map some (filter passes xs)
  sorted_out [] = refl
  sorted_out (x ∷ xs) = ap (λ ys. ys ++ flat_map all xs) (same x) ∙ ap (λ ys. cond (passes x) (some x) [] ++ ys) (sorted_out xs) ∙ one x xs (passes x)

nothing : {A : Type 0} (b : Bool) → ◌≡◌ {A = List A} [] (cond b [] [])
nothing true = refl
nothing false = refl

assigned_heard : (type : Option Suffix) (section : Option (List ℕ)) (item : Item)
    → assigned_by type section item ≡ cond (model.is_heard type section item) (model.assigned_by section item) []
assigned_heard type (Some s) (Assignment key value line whole) = refl
assigned_heard type None (Assignment key value line whole) = refl
assigned_heard type None (Section name line) = refl
assigned_heard type (Some s) (Section name line) = refl
assigned_heard type None (Warned warning line) = refl
assigned_heard type (Some s) (Warned warning line) = nothing (is_known_section type s)

-- the assignments of a file
file_assigns : (type : Option Suffix) (source : model.Source)
    → assigned_in type source.reading ≡ flat_map (λ (p : Placed). model.assigned_by p.section p.item) (model.heard_in type source)
file_assigns type source =
    sorted_out (λ (p : Placed). model.is_heard type p.section p.item) (λ p. assigned_by type p.section p.item) (λ p. model.assigned_by p.section p.item)
    (λ p. assigned_heard type p.section p.item) source.reading

at_warnings : (path : List ℕ) (line : ℕ) (warning : Option WarningKind) (b : Bool) → warnings_at path line (cond b warning None) ≡ cond b (warnings_at path line warning) []
at_warnings path line warning true = refl
at_warnings path line warning false = refl

warned_heard : (profile : Profile) (unit path : List ℕ) (section : Option (List ℕ)) (item : Item)
    → warnings_at path (line_number item) (warning_of profile unit section item)
    ≡ cond (model.is_heard (suffix_of unit) section item) (warnings_at path (line_number item) (model.warning_of profile unit section item)) []
warned_heard profile unit path section (Section name line) = refl
warned_heard profile unit path (Some s) (Assignment key value line whole) = at_warnings path line (model.assignment_warning profile unit s key value) (is_known_section (suffix_of unit) s)
warned_heard profile unit path None (Assignment key value line whole) = refl
warned_heard profile unit path (Some s) (Warned warning line) = at_warnings path line (Some warning) (is_known_section (suffix_of unit) s)
warned_heard profile unit path None (Warned warning line) = refl

-- the warnings of a file
file_warns : (profile : Profile) (unit : List ℕ) (source : model.Source)
    → warned_in profile unit source ≡ model.warnings_in profile unit source
file_warns profile unit source =
    sorted_out (λ (p : Placed). model.is_heard (suffix_of unit) p.section p.item) (λ p. warnings_at source.path (line_number p.item) (warning_of profile unit p.section p.item))
    (λ p. warnings_at source.path (line_number p.item) (model.warning_of profile unit p.section p.item)) (λ p. warned_heard profile unit source.path p.section p.item) source.reading

same_files : {A B : Type 0} (f g : A → List B) → ((x : A) → f x ≡ g x) → (xs : List A) → flat_map f xs ≡ flat_map g xs
same_files f g same [] = refl
same_files f g same (x ∷ xs) = ap (λ ys. ys ++ flat_map f xs) (same x) ∙ ap (λ ys. g x ++ ys) (same_files f g same xs)

-- of all files
pub all_assign : (type : Option Suffix) (sources : List model.Source)
    → flat_map (λ (s : model.Source). assigned_in type s.reading) sources ≡ model.assignments_in type sources
all_assign type sources = same_files _ _ (file_assigns type) sources

pub all_warn : (profile : Profile) (unit : List ℕ) (sources : List model.Source) → flat_map (warned_in profile unit) sources ≡ warnings_of profile unit sources
all_warn profile unit sources = same_files _ _ (file_warns profile unit) sources

-- ---- heads and assignments alone

none_by_warning : (type : Option Suffix) (section : Option (List ℕ)) (warning : WarningKind) (line : ℕ) → assigned_by type section (Warned warning line) ≡ []
none_by_warning type None warning line = refl
none_by_warning type (Some section) warning line = refl

-- heads and assignments alone have the assignments of the file
pub said_assigned : (type : Option Suffix) (section : Option (List ℕ)) (items : List Read)
    → assigned_in type (in_sections section (map item_of (filter says items))) ≡ assigned_in type (in_sections section (map item_of items))
said_assigned type section [] = refl
said_assigned type section (read.Section name line ∷ items) =
    let item = item_of (read.Section name line) in
    ap (λ later. assigned_by type (section_past section item) item ++ later) (said_assigned type (section_past section item) items)
said_assigned type section (read.Assignment key value line span ∷ items) =
    let item = item_of (read.Assignment key value line span) in
    ap (λ later. assigned_by type (section_past section item) item ++ later) (said_assigned type (section_past section item) items)
said_assigned type section (read.Warning kind line ∷ items) =
    said_assigned type section items ∙ ap (λ here. here ++ assigned_in type (in_sections section (map item_of items))) (sym (none_by_warning type section kind line))
