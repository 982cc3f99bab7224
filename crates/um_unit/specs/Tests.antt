-- The results of the tests of single settings and ends, and which warnings the parts of a file give.
use Rattle.std.specs.Prelude.{Bool, true, false, not, ◌&&◌, ◌==◌, length, codes, List, [], ◌∷◌, ℕ, ◌||◌, Option, Some, None, if◌then◌else◌, bytes_eq}
use Rattle.std.specs.List.{flat_map, list_any}
use Rattle.std.specs.Option.{option_map_or}
use Rattle.um_model.specs.Keys.{is_refused_key, is_known_section, is_foreign}
use Rattle.um_model.specs.Syntax.{Item, Section, Assignment, Warned, line_number}
use Rattle.um_model.specs.Text.{is_empty}
use Rattle.um_model.specs.Units.{Key, Assigned, Source, ServiceSettings, TypeSaid, Unserved, Warning, assignment_warning}
use Rattle.um_model.specs.declared.service.End.{End}
use Rattle.um_model.specs.Names.{suffix_of}
use Rattle.um_model.specs.declared.names.Suffix.{Suffix}
use Rattle.um_model.specs.declared.names.Suffix.TheVariants.{Service}
use Rattle.um_model.specs.declared.profile.Profile.{Profile}
use Rattle.um_model.specs.declared.settings.RestartPolicy.{RestartPolicy}
use Rattle.um_model.specs.declared.settings.RestartPolicy.TheVariants.{Always, OnSuccess}
use Rattle.um_model.specs.declared.transition.UnitKind.{UnitKind}
use Rattle.um_model.specs.declared.transition.UnitKind.TheVariants.{Oneshot}
use Rattle.um_model.specs.declared.warnings.WarningKind.{WarningKind}
use Rattle.um_model.specs.declared.warnings.WarningKind.TheVariants.{UnknownSection}

-- one of the sets holds the end
abbrev pub tells_any : List (End → Bool) → End → Bool
tells_any sets end = list_any (λ set. set end) sets

-- a key that no unit may have is given a value
abbrev pub is_refused : Profile → Assigned → Bool
is_refused profile a = is_refused_key profile a.key && not (is_empty a.value)

-- it has no command of `ExecStart=`, and doesn't remain with one of `ExecStop=`
abbrev pub lacks_command : ServiceSettings → Bool
lacks_command s = is_empty s.start && not (s.remains && not (is_empty s.stop))

-- the head of a section: an unknown one, unless it is foreign
abbrev pub head_warning : Option Suffix → List ℕ → Option WarningKind
head_warning type name = if is_known_section type name || is_foreign name then None else Some UnknownSection

-- the warning that an assignment gives; the lines of a section that isn't known give none
abbrev pub warning_of_assignment : Profile → List ℕ → Option (List ℕ) → List ℕ → List ℕ → Option WarningKind
warning_of_assignment profile unit None key value = None
warning_of_assignment profile unit (Some section) key value =
    if is_known_section (suffix_of unit) section then assignment_warning profile unit section key value else None

-- a warning of the syntax stands, except in a section that isn't known
abbrev pub warning_of_syntax : Option Suffix → Option (List ℕ) → WarningKind → Option WarningKind
warning_of_syntax type None warning = Some warning
warning_of_syntax type (Some section) warning = if is_known_section type section then Some warning else None

-- the warning that an item gives; in a section that isn't known nothing but its head gives one
abbrev pub warning_of : Profile → List ℕ → Option (List ℕ) → Item → Option WarningKind
warning_of profile unit section (Section name line) = head_warning (suffix_of unit) name
warning_of profile unit section (Assignment key value line whole) = warning_of_assignment profile unit section key value
warning_of profile unit section (Warned warning line) = warning_of_syntax (suffix_of unit) section warning

-- the warning of a line, if it gives one
abbrev pub warnings_at : List ℕ → ℕ → Option WarningKind → List Warning
warnings_at path line warning = option_map_or (λ kind. record { kind = kind; path = path; line = line } ∷ []) warning []

-- the warnings of a file, by line
abbrev pub warned_in : Profile → List ℕ → Source → List Warning
warned_in profile unit s = flat_map (λ p. warnings_at s.path (line_number p.item) (warning_of profile unit p.section p.item)) s.reading

-- it assigns to one of the keys
abbrev pub assigns : List Key → Assigned → Bool
assigns keys a = list_any (λ key. bytes_eq a.section key.0 && bytes_eq a.key key.1) keys

-- a oneshot service has neither a command, nor does it remain with a command to stop it; any other service hasn't exactly one
abbrev pub has_wrong_count : UnitKind → ServiceSettings → Bool
has_wrong_count Oneshot s = lacks_command s
has_wrong_count other s = not (length s.start == 1)

-- a oneshot service is started again after a success
abbrev pub restarts_after_success : UnitKind → RestartPolicy → Bool
restarts_after_success Oneshot Always = true
restarts_after_success Oneshot OnSuccess = true
restarts_after_success kind policy = false

-- why a service can't be loaded, test by test; the laws in UpperLemmas show that the definition agrees
abbrev pub refused_service : Option Suffix → TypeSaid → ServiceSettings → Option (List ℕ)
refused_service (Some Service) Unserved s = Some (codes "type")
refused_service (Some Service) said s =
    if has_wrong_count s.kind s then Some (codes "exec-count")
    else (if restarts_after_success s.kind s.restart then Some (codes "restart") else None)
refused_service other said s = None
