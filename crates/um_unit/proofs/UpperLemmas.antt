-- A service's settings, field by field, and when a unit is the one of its files.
use Rattle.std.proofs.Common.{◌≡◌, ◌==◌, ℕ, Bool, true, false, not, cond, List, [], ◌∷◌, length, codes, Option, Some, None, refl, sym, ap, ◌∙◌}
use Rattle.std.specs.List.{list_any}
use Rattle.std.specs.Str.{bytes_eq}
use Rattle.um_model.specs.Values.{restart_text}
use Rattle.um_unit.specs.Tests as tests
use Rattle.um_model.specs.Names.{suffix_of}
use Rattle.std.specs.Option.{option_or}
use Rattle.um_model.specs.Settings.{ServiceSettings}
use Rattle.um_model.specs.Substitution.{Variable}
use Rattle.um_model.specs.Units.{Assigned, Dependencies, Found, InstallSettings, LoadedUnit, Settings, Source, Warning, assignments_in, loading_by_file, reason_of, refused_kind, refused_service, refused_setting, TypeSaid, Unsaid, Served, Unserved, service_settings_of, settings_of, type_of, unit_by}
use Rattle.um_model.specs.Commands.{Command}
use Rattle.um_model.specs.declared.names.Suffix.{Suffix}
use Rattle.um_model.specs.declared.profile.Profile.{Profile}
use Rattle.um_model.specs.declared.service.End.{End}
use Rattle.um_model.specs.declared.settings.RestartPolicy.{RestartPolicy}
use Rattle.um_model.specs.declared.settings.RestartPolicy.TheVariants.{No, Always, OnSuccess, OnFailure, OnAbnormal, OnAbort, OnWatchdog}
use Rattle.um_model.specs.declared.names.Suffix.TheVariants.{Service}
use Rattle.um_model.specs.declared.transition.UnitKind.TheVariants.{Simple, Exec, Oneshot, Target}
use Rattle.um_model.specs.declared.transition.UnitKind.{UnitKind}
use Rattle.um_model.proofs.Forms.{found_unless}
use Rattle.um_model.specs.FileForms.{warnings_of}

pub same_settings : {kind : UnitKind} {start_pre start stop stop' : List Command} {environment environment' : List Variable} {remains remains' : Bool} {restart restart' : RestartPolicy}
    {delay delay' timeout_start timeout_start' timeout_stop timeout_stop' interval interval' : Option ℕ} {burst burst' : ℕ}
    {success success' prevents prevents' forces forces' : End → Bool}
    → stop ≡ stop' → environment ≡ environment' → remains ≡ remains' → restart ≡ restart' → delay ≡ delay' → timeout_start ≡ timeout_start' → timeout_stop ≡ timeout_stop'
    → interval ≡ interval' → burst ≡ burst' → success ≡ success' → prevents ≡ prevents' → forces ≡ forces'
    → ◌≡◌ {A = ServiceSettings}
    (record { kind = kind; start_pre = start_pre; start = start; stop = stop; environment = environment; remains = remains; restart = restart; restart_delay = delay; timeout_start = timeout_start; timeout_stop = timeout_stop; limit_interval = interval; limit_burst = burst; success = success; prevents_restart = prevents; forces_restart = forces })
    (record { kind = kind; start_pre = start_pre; start = start; stop = stop'; environment = environment'; remains = remains'; restart = restart'; restart_delay = delay'; timeout_start = timeout_start'; timeout_stop = timeout_stop'; limit_interval = interval'; limit_burst = burst'; success = success'; prevents_restart = prevents'; forces_restart = forces' })
same_settings stop environment remains restart delay timeout_start timeout_stop interval burst success prevents forces = cc

pub same_parts : {description description' : List ℕ} {dependencies dependencies' : Dependencies} {service service' : ServiceSettings} {install install' : InstallSettings}
    → description ≡ description' → dependencies ≡ dependencies' → service ≡ service' → install ≡ install'
    → ◌≡◌ {A = Settings} (record { description = description; dependencies = dependencies; service = service; install = install }) (record { description = description'; dependencies = dependencies'; service = service'; install = install' })
same_parts described depends serves installs = cc

-- ---- loading

same_unit : {name name' : List ℕ} {path path' : Option (List ℕ)} {settings settings' : Settings} {warnings warnings' : List Warning}
    → name ≡ name' → path ≡ path' → settings ≡ settings' → warnings ≡ warnings'
    → ◌≡◌ {A = LoadedUnit} (record { name = name; path = path; settings = settings; warnings = warnings }) (record { name = name'; path = path'; settings = settings'; warnings = warnings' })
same_unit named placed sets warns = cc

-- a unit with these settings and warnings is the one of its files
pub unit_is : (profile : Profile) (unit : List ℕ) (sources : List Source) → {name : List ℕ} {path path' : Option (List ℕ)} {suffix : Suffix} {assigned : List Assigned} {settings : Settings} {warnings : List Warning}
    → name ≡ unit → path ≡ path' → suffix_of unit ≡ Some suffix → assigned ≡ assignments_in (Some suffix) sources → settings ≡ settings_of profile unit assigned → warnings ≡ warnings_of profile unit sources
    → ◌≡◌ {A = LoadedUnit} (record { name = name; path = path; settings = settings; warnings = warnings }) (unit_by profile unit path' sources)
unit_is profile unit sources {name} {path} {path'} {suffix} {assigned} {settings} {warnings} named placed typed assigns sets warns =
    let assigned_is : assigned ≡ assignments_in (suffix_of unit) sources = assigns ∙ ap (λ t. assignments_in t sources) (sym typed) in
    same_unit named placed (sets ∙ ap (settings_of profile unit) assigned_is) warns

-- the reason test by test is that of the definition
restarts_same : (policy : RestartPolicy) → tests.restarts_after_success Oneshot policy ≡ list_any (λ p. bytes_eq (restart_text p) (restart_text policy)) (Always ∷ OnSuccess ∷ [])
restarts_same No = refl
restarts_same Always = refl
restarts_same OnSuccess = refl
restarts_same OnFailure = refl
restarts_same OnAbnormal = refl
restarts_same OnAbort = refl
restarts_same OnWatchdog = refl

one_command : (b : Bool) → cond (not b) (Some (codes "exec-count")) None ≡ cond b None (Some (codes "exec-count"))
one_command true = refl
one_command false = refl

same_kind : (kind : UnitKind) (s : ServiceSettings)
    → cond (tests.has_wrong_count kind s) (Some (codes "exec-count")) (cond (tests.restarts_after_success kind s.restart) (Some (codes "restart")) None) ≡ refused_kind kind s
same_kind Oneshot s = ap (λ b. cond (tests.lacks_command s) (Some (codes "exec-count")) (cond b (Some (codes "restart")) None)) (restarts_same s.restart)
same_kind Simple s = one_command (length s.start == 1)
same_kind Exec s = one_command (length s.start == 1)
same_kind Target s = one_command (length s.start == 1)

same_refusal : (suffix : Option Suffix) (said : TypeSaid) (s : ServiceSettings) → tests.refused_service suffix said s ≡ refused_service suffix said s
same_refusal (Some Service) Unserved s = refl
same_refusal (Some Service) Unsaid s = same_kind s.kind s
same_refusal (Some Service) (Served kind) s = same_kind s.kind s
same_refusal _ said s = refl

-- the reason by the settings that are already known
pub reason_is : (profile : Profile) (unit : List ℕ) (sources : List Source) → {suffix other : Suffix} {assigned : List Assigned} {settings : Settings} {reason : Option (List ℕ)}
    → suffix_of unit ≡ Some suffix → suffix_of unit ≡ Some other → assigned ≡ assignments_in (Some suffix) sources → settings ≡ settings_of profile unit assigned
    → reason ≡ option_or (refused_setting profile assigned) (tests.refused_service (Some other) (type_of assigned) settings.service)
    → reason ≡ reason_of profile unit (assignments_in (suffix_of unit) sources)
reason_is profile unit sources {suffix} {other} {assigned} {settings} {reason} typed typed_too assigns sets is =
    let assigned_is : assigned ≡ assignments_in (suffix_of unit) sources = assigns ∙ ap (λ t. assignments_in t sources) (sym typed) in
    is ∙ ap (option_or (refused_setting profile assigned)) (same_refusal (Some other) (type_of assigned) settings.service)
    ∙ ap (λ s. option_or (refused_setting profile assigned) (refused_service (Some other) (type_of assigned) s)) (ap (λ s. s.service) sets)
    ∙ ap (λ t. option_or (refused_setting profile assigned) (refused_service t (type_of assigned) (service_settings_of profile (suffix_of unit) unit assigned))) (sym typed_too)
    ∙ ap (reason_of profile unit) assigned_is

-- with no reason against it, the unit of the file is found
pub found_by_file : (profile : Profile) (unit path : List ℕ) (sources : List Source) → {u : LoadedUnit} → None ≡ reason_of profile unit (assignments_in (suffix_of unit) sources) → u ≡ unit_by profile unit (Some path) sources
    → Found u ≡ loading_by_file profile unit path sources
found_by_file profile unit path sources {u} free is = ap Found is ∙ ap (λ r. found_unless r (unit_by profile unit (Some path) sources)) free
