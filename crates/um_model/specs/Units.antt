-- The settings and warnings in a unit's files, by one list of assignments, and whether the unit can be loaded.
-- Follows systemd.unit(5) and systemd.service(5).
-- The machine depends on this file: its reply to `show`, and its starts.
use Rattle.std.specs.Prelude.{ℕ, ◌*◌, Bool, true, false, not, ◌&&◌, ◌||◌, ◌==◌, List, [], ◌∷◌, ◌++◌, length, filter, find, fold, filter_map, map as each, is_some}
use Rattle.std.specs.Prelude.{Option, Some, None, Result, option_map, if◌then◌else◌, codes}
use Rattle.std.specs.Option.{ok_or, option_or, option_map_or, option_and_then}
use Rattle.std.specs.Result.{result_ok, result_err}
use Rattle.std.specs.List.{flat_map, list_any, after_last, list_all}
use Rattle.std.specs.Str.{bytes_eq}
use Rattle.std.specs.Map.{lookup}
use Rattle.um_model.specs.Names.{suffix_of, is_unit_name}
use Rattle.um_model.specs.Text.{is_empty}
use Rattle.um_model.specs.Syntax.{Item, Section, Assignment, Warned, Placed, line_number, reading_of}
use Rattle.um_model.specs.Tree.{Tree}
use Rattle.um_model.specs.Profiles.{ReadTree, serves_start_pre}
use Rattle.um_model.specs.Resolution.{is_of_same_type, UnitFile, Resolution, AtFile, AtNoFile, AtMask, Nowhere, files_at, resolution_of}
use Rattle.um_model.specs.Keys.{is_foreign, is_known_section, is_refused_key, kind_of_key}
use Rattle.um_model.specs.Readings.{text_reading, commands_reading, environment_reading, names_reading}
use Rattle.um_model.specs.Readings.{all_read, instance_in}
use Rattle.um_model.specs.Moments.{millisecond, second}
use Rattle.um_model.specs.Values.{boolean_of, number_of, span_of, exits_of, policy_named, restart_text}
use Rattle.um_model.specs.Commands.{Command}
use Rattle.um_model.specs.Substitution.{Variable}
use Rattle.um_model.specs.declared.service.End.{End}
use Rattle.um_model.specs.declared.profile.Profile.{Profile}
use Rattle.um_model.specs.declared.settings.RestartPolicy.{RestartPolicy}
use Rattle.um_model.specs.declared.settings.RestartPolicy.TheVariants.{No, Always, OnSuccess}
use Rattle.um_model.specs.declared.transition.UnitKind.{UnitKind}
use Rattle.um_model.specs.declared.transition.UnitKind.TheVariants.{Simple, Exec, Oneshot, Target}
use Rattle.um_model.specs.declared.names.Suffix.{Suffix}
use Rattle.um_model.specs.declared.names.Suffix.TheVariants.{Service}
use Rattle.um_model.specs.declared.units.LoadState.{LoadState}
use Rattle.um_model.specs.declared.units.LoadState.TheVariants as load_state
use Rattle.um_model.specs.declared.units.ValueKind.{ValueKind}
use Rattle.um_model.specs.declared.units.ValueKind.TheVariants as kinds
use Rattle.um_model.specs.declared.warnings.WarningKind.{WarningKind}
use Rattle.um_model.specs.declared.warnings.WarningKind.TheVariants.{UnknownSection, UnknownKey, UnreadableValue}

-- the word for a load state
abbrev pub load_state_text : LoadState → List ℕ
load_state_text load_state.Loaded = codes "loaded"
load_state_text load_state.Masked = codes "masked"
load_state_text load_state.NotFound = codes "not-found"
load_state_text load_state.BadSetting = codes "bad-setting"

-- ---- assignments

-- a file that was read
pub record Source : Type 0 where
  pub path : List ℕ
  pub reading : List Placed

abbrev pub source_of : UnitFile → Source
source_of file = record { path = file.path; reading = reading_of file.text }

-- of a section that isn't known, the head alone is heard
abbrev pub is_heard : Option Suffix → Option (List ℕ) → Item → Bool
is_heard type section (Section name line) = true
is_heard type section other = option_map_or (is_known_section type) section true

abbrev pub heard_in : Option Suffix → Source → List Placed
heard_in type s = filter (λ p. is_heard type p.section p.item) s.reading

-- an assignment in a known section
pub record Assigned : Type 0 where
  pub section : List ℕ
  pub key : List ℕ
  pub value : List ℕ

abbrev pub assigned_by : Option (List ℕ) → Item → List Assigned
assigned_by (Some s) (Assignment k v line whole) = record { section = s; key = k; value = v } ∷ []
assigned_by section other = []

-- the assignments of a unit's files as one list, in the order in which they are read
abbrev pub assignments_in : Option Suffix → List Source → List Assigned
assignments_in type sources = flat_map (λ s. flat_map (λ p. assigned_by p.section p.item) (heard_in type s)) sources

-- a key in its section
abbrev pub Key : Type 0
Key = List ℕ × List ℕ

-- the values of one setting, in order: each assignment to one of its keys
abbrev pub values_of : List Key → List Assigned → List (List ℕ)
values_of keys assigned = flat_map (λ a. if list_any (λ key. bytes_eq a.section key.0 && bytes_eq a.key key.1) keys then a.value ∷ [] else []) assigned

-- the values of a list that an empty value clears: those after the last empty one
abbrev pub since_empty : Key → List Assigned → List (List ℕ)
since_empty key assigned = after_last is_empty (values_of (key ∷ []) assigned)

-- ---- the meaning of values

-- another name of a unit has its suffix
abbrev pub is_alias_for : List ℕ → List ℕ → Bool
is_alias_for unit text = is_unit_name text && is_of_same_type unit text

-- an empty value gives the default back
abbrev pub default_instance_in : List ℕ → Option (Option (List ℕ))
default_instance_in value = if is_empty value then Some None else option_map Some (instance_in value)

-- the meaning of Type=: a type that is served, or one that isn't; any other word can't be read
pub data TypeSaid : Type 0 where
  Unsaid : TypeSaid
  Served : UnitKind → TypeSaid
  Unserved : TypeSaid

-- the meaning of a word for a type
unfoldable pub type_said : List ℕ → Option TypeSaid
type_said value =
    lookup (bytes_eq value) (
    (codes "simple", Served Simple) ∷ (codes "exec", Served Exec) ∷ (codes "oneshot", Served Oneshot) ∷ (codes "notify", Unserved)
    ∷ (codes "notify-reload", Unserved) ∷ (codes "dbus", Unserved) ∷ (codes "forking", Unserved) ∷ (codes "idle", Unserved) ∷ [])

-- the meaning of a value of this kind; for a list of names, that of one of its words
abbrev pub Said : ValueKind → Type 0
Said kinds.Instance = Option (List ℕ)
Said kinds.Truth = Bool
Said kinds.Span = Option ℕ
Said kinds.Number = ℕ
Said kinds.Commands = List Command
Said kinds.Environment = List Variable
Said kinds.Exits = End → Bool
Said kinds.Policy = RestartPolicy
Said kinds.ServiceType = TypeSaid
Said other = List ℕ

-- the meaning of a value of this kind under a unit's name, or the warning that it gives: a list of names word by word; others mean one
-- thing, or nothing at all
abbrev pub value_readings : List ℕ → (k : ValueKind) → List ℕ → List (Result (Said k) WarningKind)
value_readings unit kinds.Text value = text_reading unit value ∷ []
value_readings unit kinds.Units value = names_reading is_unit_name unit value
value_readings unit kinds.Aliases value = names_reading (is_alias_for unit) unit value
value_readings unit kinds.Instance value = ok_or (default_instance_in value) UnreadableValue ∷ []
value_readings unit kinds.Truth value = ok_or (boolean_of value) UnreadableValue ∷ []
value_readings unit kinds.Span value = ok_or (span_of value) UnreadableValue ∷ []
value_readings unit kinds.Number value = ok_or (number_of value) UnreadableValue ∷ []
value_readings unit kinds.Commands value = commands_reading unit value ∷ []
value_readings unit kinds.Environment value = environment_reading unit value ∷ []
value_readings unit kinds.Exits value = ok_or (exits_of value) UnreadableValue ∷ []
value_readings unit kinds.Policy value = ok_or (policy_named value) UnreadableValue ∷ []
value_readings unit kinds.ServiceType value = ok_or (type_said value) UnreadableValue ∷ []
value_readings unit other value = []

-- all that these values say, in order
abbrev pub all_said : List ℕ → (k : ValueKind) → List (List ℕ) → List (Said k)
all_said unit k values = flat_map (λ value. filter_map result_ok (value_readings unit k value)) values

-- the first warning that a value gives
unfoldable pub value_warning : List ℕ → ValueKind → List ℕ → Option WarningKind
value_warning unit k value = result_err (all_read (value_readings unit k value))

-- ---- settings, each by its own rule over the one list of assignments

-- a single value: of all assignments to these keys the last that can be read, or the default
abbrev pub last_said : List ℕ → (k : ValueKind) → Said k → List Key → List Assigned → Said k
last_said unit k default keys assigned = fold (λ earlier value. value) default (all_said unit k (values_of keys assigned))

-- the other units that the unit names, each list in order: as After=, Before=, Wants=, Requires=, BindsTo=, PartOf= and Conflicts=
pub record Dependencies : Type 0 where
  pub after : List (List ℕ)
  pub before : List (List ℕ)
  pub wants : List (List ℕ)
  pub required : List (List ℕ)
  pub binds_to : List (List ℕ)
  pub part_of : List (List ℕ)
  pub conflicts : List (List ℕ)
  pub default_dependencies : Bool

abbrev pub units_named : List ℕ → List ℕ → List Assigned → List (List ℕ)
units_named key unit assigned = all_said unit kinds.Units (values_of ((codes "Unit", key) ∷ []) assigned)

unfoldable pub dependencies_of : List ℕ → List Assigned → Dependencies
dependencies_of unit assigned = record {
  after = units_named (codes "After") unit assigned;
  before = units_named (codes "Before") unit assigned;
  wants = units_named (codes "Wants") unit assigned;
  required = units_named (codes "Requires") unit assigned;
  binds_to = units_named (codes "BindsTo") unit assigned;
  part_of = units_named (codes "PartOf") unit assigned;
  conflicts = units_named (codes "Conflicts") unit assigned;
  default_dependencies = last_said unit kinds.Truth true ((codes "Unit", codes "DefaultDependencies") ∷ []) assigned;
}

-- the settings by which the unit is enabled
pub record InstallSettings : Type 0 where
  pub alias : List (List ℕ)
  pub wanted_by : List (List ℕ)
  pub required_by : List (List ℕ)
  pub also : List (List ℕ)
  pub default_instance : Option (List ℕ)

abbrev pub nothing_installed : InstallSettings
nothing_installed = record { alias = []; wanted_by = []; required_by = []; also = []; default_instance = None }

unfoldable pub install_settings_of : List ℕ → List Assigned → InstallSettings
install_settings_of unit assigned = record {
  alias = all_said unit kinds.Aliases (since_empty (codes "Install", codes "Alias") assigned);
  wanted_by = all_said unit kinds.Units (since_empty (codes "Install", codes "WantedBy") assigned);
  required_by = all_said unit kinds.Units (since_empty (codes "Install", codes "RequiredBy") assigned);
  also = all_said unit kinds.Units (values_of ((codes "Install", codes "Also") ∷ []) assigned);
  default_instance = last_said unit kinds.Instance None ((codes "Install", codes "DefaultInstance") ∷ []) assigned;
}

-- Type= of the unit, whatever its name
abbrev pub type_of : List Assigned → TypeSaid
type_of assigned = last_said [] kinds.ServiceType Unsaid ((codes "Service", codes "Type") ∷ []) assigned

-- the kind of a service: by a served Type=; if none is set, simple with a command and oneshot without one
abbrev pub kind_by : TypeSaid → List Command → UnitKind
kind_by Unsaid start = if is_empty start then Oneshot else Simple
kind_by (Served kind) start = kind
kind_by Unserved start = Simple

-- all that the values of a setting of [Service] say, after the last empty one
abbrev pub service_said : List ℕ → (k : ValueKind) → List ℕ → List Assigned → List (Said k)
service_said unit k key assigned = all_said unit k (since_empty (codes "Service", key) assigned)

-- the ends that one of these sets holds
abbrev pub any_of : List (End → Bool) → End → Bool
any_of sets end = list_any (λ set. set end) sets

-- a time-out of 0 never passes
abbrev pub unless_zero : Option ℕ → Option ℕ
unless_zero span = option_and_then (λ n. if n == 0 then None else Some n) span

-- of a service: spans are in microseconds, and one that is None never ends
pub record ServiceSettings : Type 0 where
  pub kind : UnitKind
  pub start_pre : List Command  -- ExecStartPre=
  pub start : List Command  -- ExecStart=
  pub stop : List Command  -- ExecStop=
  pub environment : List Variable
  pub remains : Bool  -- RemainAfterExit=
  pub restart : RestartPolicy
  pub restart_delay : Option ℕ  -- RestartSec=
  pub timeout_start : Option ℕ
  pub timeout_stop : Option ℕ
  pub limit_interval : Option ℕ  -- StartLimitIntervalSec=
  pub limit_burst : ℕ  -- StartLimitBurst=
  pub success : End → Bool  -- SuccessExitStatus=
  pub prevents_restart : End → Bool  -- RestartPreventExitStatus=
  pub forces_restart : End → Bool  -- RestartForceExitStatus=

-- how long a restart waits by default
abbrev pub default_restart_delay : ℕ
default_restart_delay = 100 * millisecond

-- how long a start or a stop may take by default
abbrev pub default_timeout : ℕ
default_timeout = 90 * second

-- the start limit by default: its interval, and the number of starts in it
abbrev pub default_limit_interval : ℕ
default_limit_interval = 10 * second

abbrev pub default_limit_burst : ℕ
default_limit_burst = 5

-- a oneshot service may start as long as it likes by default
abbrev pub default_timeout_start : UnitKind → Option ℕ
default_timeout_start Oneshot = None
default_timeout_start other = Some default_timeout

-- the settings of a service of this kind with these commands; each default stands with its setting
abbrev pub service_settings_with : (start_pre start : List Command) → UnitKind → List ℕ → List Assigned → ServiceSettings
service_settings_with start_pre start kind unit assigned = record {
  kind = kind;
  start_pre = start_pre;
  start = start;
  stop = flat_map (λ said. said) (service_said unit kinds.Commands (codes "ExecStop") assigned);
  environment = flat_map (λ said. said) (service_said unit kinds.Environment (codes "Environment") assigned);
  remains = last_said unit kinds.Truth false ((codes "Service", codes "RemainAfterExit") ∷ []) assigned;
  restart = last_said unit kinds.Policy No ((codes "Service", codes "Restart") ∷ []) assigned;
  restart_delay = last_said unit kinds.Span (Some default_restart_delay) ((codes "Service", codes "RestartSec") ∷ []) assigned;
  timeout_start =
      unless_zero
      (last_said unit kinds.Span (default_timeout_start kind)
      ((codes "Service", codes "TimeoutStartSec") ∷ (codes "Service", codes "TimeoutSec") ∷ []) assigned);
  timeout_stop =
      unless_zero
      (last_said unit kinds.Span (Some default_timeout) ((codes "Service", codes "TimeoutStopSec") ∷ (codes "Service", codes "TimeoutSec") ∷ []) assigned);
  limit_interval =
      last_said unit kinds.Span (Some default_limit_interval)
      ((codes "Unit", codes "StartLimitIntervalSec") ∷ (codes "Service", codes "StartLimitInterval") ∷ []) assigned;
  limit_burst =
      last_said unit kinds.Number default_limit_burst ((codes "Unit", codes "StartLimitBurst") ∷ (codes "Service", codes "StartLimitBurst") ∷ []) assigned;
  success = any_of (service_said unit kinds.Exits (codes "SuccessExitStatus") assigned);
  prevents_restart = any_of (service_said unit kinds.Exits (codes "RestartPreventExitStatus") assigned);
  forces_restart = any_of (service_said unit kinds.Exits (codes "RestartForceExitStatus") assigned);
}

-- the commands of ExecStartPre=, if the profile serves that
abbrev pub start_pre_of : Profile → List ℕ → List Assigned → List Command
start_pre_of profile unit assigned =
    if serves_start_pre profile then flat_map (λ said. said) (service_said unit kinds.Commands (codes "ExecStartPre") assigned) else []

-- the settings of a unit that isn't a service are those of a target: without assignments in [Service], only the start limit may be set
unfoldable pub service_settings_of : Profile → Option Suffix → List ℕ → List Assigned → ServiceSettings
service_settings_of profile (Some Service) unit assigned =
    let start = flat_map (λ said. said) (service_said unit kinds.Commands (codes "ExecStart") assigned) in
    service_settings_with (start_pre_of profile unit assigned) start (kind_by (type_of assigned) start) unit assigned
service_settings_of profile other unit assigned = service_settings_with [] [] Target unit assigned

-- the settings in a unit's files: its description, the other units that it names, its processes, and how it is enabled
pub record Settings : Type 0 where
  pub description : List ℕ
  pub dependencies : Dependencies
  pub service : ServiceSettings
  pub install : InstallSettings

abbrev pub settings_of : Profile → List ℕ → List Assigned → Settings
settings_of profile unit assigned = record {
  description = last_said unit kinds.Text [] ((codes "Unit", codes "Description") ∷ []) assigned;
  dependencies = dependencies_of unit assigned;
  service = service_settings_of profile (suffix_of unit) unit assigned;
  install = install_settings_of unit assigned;
}

-- ---- settings that are refused

-- `setting` and the first key that no unit may have and that is given a value, if there is one
abbrev pub refused_setting : Profile → List Assigned → Option (List ℕ)
refused_setting profile assigned = option_map (λ a. codes "setting " ++ a.key) (find (λ a. is_refused_key profile a.key && not (is_empty a.value)) assigned)

-- why a service of this kind can't be loaded: a oneshot one has a command, or remains with a command to stop it, and isn't started again after
-- a success; any other has exactly one command
abbrev pub refused_kind : UnitKind → ServiceSettings → Option (List ℕ)
refused_kind Oneshot s =
    if is_empty s.start && not (s.remains && not (is_empty s.stop)) then Some (codes "exec-count")
    else (if list_any (λ p. bytes_eq (restart_text p) (restart_text s.restart)) (Always ∷ OnSuccess ∷ []) then Some (codes "restart") else None)
refused_kind other s = if length s.start == 1 then None else Some (codes "exec-count")

-- why a service can't be loaded, by its type, its commands and its restarts
abbrev pub refused_service : Option Suffix → TypeSaid → ServiceSettings → Option (List ℕ)
refused_service (Some Service) Unserved s = Some (codes "type")
refused_service (Some Service) said s = refused_kind s.kind s
refused_service other said s = None

-- the first reason why a unit can't be loaded
abbrev pub reason_of : Profile → List ℕ → List Assigned → Option (List ℕ)
reason_of profile unit assigned =
    option_or (refused_setting profile assigned)
    (refused_service (suffix_of unit) (type_of assigned) (service_settings_of profile (suffix_of unit) unit assigned))

-- ---- warnings

-- an assignment in a known section: an unknown key, unless it is foreign, or a value that can't be read
abbrev pub assignment_warning : Profile → List ℕ → List ℕ → List ℕ → List ℕ → Option WarningKind
assignment_warning profile unit section key value =
    if is_foreign key then None else option_map_or (λ kind. value_warning unit kind value) (kind_of_key profile section key) (Some UnknownKey)

-- the warning that an item gives in a file of this unit: the head of a section that isn't known, unless that is foreign
abbrev pub warning_of : Profile → List ℕ → Option (List ℕ) → Item → Option WarningKind
warning_of profile unit section (Section name line) = if is_known_section (suffix_of unit) name || is_foreign name then None else Some UnknownSection
warning_of profile unit (Some s) (Assignment k v line whole) = assignment_warning profile unit s k v
warning_of profile unit None (Assignment k v line whole) = None
warning_of profile unit section (Warned warning line) = Some warning

-- a warning of a unit: its kind, the path of the file and the line
pub record Warning : Type 0 where
  pub kind : WarningKind
  pub path : List ℕ
  pub line : ℕ

-- the warnings of a file, by line
abbrev pub warnings_in : Profile → List ℕ → Source → List Warning
warnings_in profile unit s =
    flat_map (λ p. option_map_or (λ w. record { kind = w; path = s.path; line = line_number p.item } ∷ []) (warning_of profile unit p.section p.item) [])
    (heard_in (suffix_of unit) s)

-- ---- loading

-- a unit that was found: its name, the path of its file if there is one, its settings and warnings
pub record LoadedUnit : Type 0 where
  pub name : List ℕ
  pub path : Option (List ℕ)
  pub settings : Settings
  pub warnings : List Warning

-- the result of the search for a unit: it was found, is masked, isn't found, or has a setting that is refused, for this reason
pub data Loading : Type 0 where
  Found : LoadedUnit → Loading
  Masked : (unit : List ℕ) → Loading
  NotFound : Loading
  BadSetting : (unit reason : List ℕ) → Loading

-- a unit by its files
abbrev pub unit_by : Profile → List ℕ → Option (List ℕ) → List Source → LoadedUnit
unit_by profile unit path sources = record {
  name = unit;
  path = path;
  settings = settings_of profile unit (assignments_in (suffix_of unit) sources);
  warnings = flat_map (warnings_in profile unit) sources;
}

-- a unit with a file: found, unless a setting is refused
abbrev pub loading_by_file : Profile → List ℕ → List ℕ → List Source → Loading
loading_by_file profile unit path sources =
    option_map_or (BadSetting unit) (reason_of profile unit (assignments_in (suffix_of unit) sources)) (Found (unit_by profile unit (Some path) sources))

-- the sources of a unit
abbrev pub sources_at : Tree → Resolution → List Source
sources_at tree resolution = each source_of (files_at tree resolution)

-- a unit that needs no file is found, whatever its drop-ins set; nothing in them enables it
abbrev pub loading_at : ReadTree → Resolution → Loading
loading_at tree (AtFile unit path text) = loading_by_file tree.profile unit path (sources_at tree.entries (AtFile unit path text))
loading_at tree (AtNoFile unit) =
    let u = unit_by tree.profile unit None (sources_at tree.entries (AtNoFile unit)) in
    Found (record u { settings = record u.settings { install = nothing_installed } })
loading_at tree (AtMask unit) = Masked unit
loading_at tree Nowhere = NotFound

-- the unit of that name in the tree as it is read: a function of the tree, the profile and the name
unfoldable pub load : ReadTree → List ℕ → Loading
load tree unit = loading_at tree (resolution_of tree.entries unit)

-- the name that counts for the given one, by where that leads: the last name, or the given name itself if it leads nowhere
abbrev pub named_at : List ℕ → Resolution → List ℕ
named_at asked (AtFile unit path text) = unit
named_at asked (AtNoFile unit) = unit
named_at asked (AtMask unit) = unit
named_at asked Nowhere = asked

-- the same by the tree: neither the texts of the files count, nor the profile by which they are read
abbrev pub unit_named : Tree → List ℕ → List ℕ
unit_named tree asked = named_at asked (resolution_of tree asked)

-- the same by the result of loading
abbrev pub name_in : List ℕ → Loading → List ℕ
name_in asked (Found u) = u.name
name_in asked (Masked unit) = unit
name_in asked NotFound = asked
name_in asked (BadSetting unit reason) = unit

-- each of these readings gives a value
abbrev pub are_read : {A : Type 0} → List (Result A WarningKind) → Bool
are_read readings = list_all (λ r. is_some (result_ok r)) readings

-- each part of the value can be read as this kind
abbrev pub counts : List ℕ → ValueKind → List ℕ → Bool
counts unit k value = are_read (value_readings unit k value)
