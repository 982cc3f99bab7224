-- The machine: its state, its inputs and replies, one step, and a run.
-- The rules of single inputs follow systemctl(1); the machine itself is this project's own.
-- The engine, the keeper, the manager and the program depend on this file.
use Rattle.std.specs.Prelude.{◌≡◌, ◌≢◌, ◌⊎◌, ◌↔◌, ⊤, ℕ, ◌+◌, ◌<◌, ◌≤◌, max, Bool, true, false, if◌then◌else◌, List, [], ◌∷◌, ◌++◌, Option, Some, None, is_some, Ok, Err, codes, map as each, AllPairs, Contains}
use Rattle.std.specs.FinMap as map
use Rattle.std.specs.Option.{option_map_or}
use Rattle.um_model.specs.Least.{IsLeast, IsNamedBefore}
use Rattle.um_model.specs.Refusals.{Refused, not_found, masked, bad_setting, not_loaded, no_such_job, no_room, too_large, FirstCause}
use Rattle.um_model.specs.Names.{is_template}
use Rattle.um_model.specs.Tree.{Tree, put_file, put_link, remove_at, without_run}
use Rattle.um_model.specs.Profiles.{ReadTree, later, current, read_by, lasting_tree}
use Rattle.um_model.specs.Settings.{ServiceSettings, default_settings}
use Rattle.um_model.specs.Resolution.{UnitFile, Resolution, AtMask, Nowhere, files_at, resolution_of}
use Rattle.um_model.specs.Units.{LoadedUnit, Loading, Found, Masked, NotFound, BadSetting, load, unit_named, Warning}
use Rattle.um_model.specs.Dependencies.{IsKnown, KnowsTooMany, CountsFor, Depends, Precedes, loadable_in}
use Rattle.um_model.specs.Install.{Installs, RefusesLinks, RefusesUnits, paths_beyond, IsEnabledAs}
use Rattle.um_model.specs.Service.{ByUnit, AreTidyUnits, state_of_unit, with_unit, active_state_of, is_number, Action}
use Rattle.um_model.specs.Ends.{waits_for_report, has_one_command}
use Rattle.um_model.specs.Transitions.{transition, AreActions, HasNumber, spawned, is_going}
use Rattle.um_model.specs.Jobs.{Job, job_of, jobs, no_jobs, jobs_of_unit, with_jobs, AreTidyJobs, is_active, cancelled, JobShown, jobs_shown, jobs_left, without_start, IsReady, BeginsNext, with_job}
use Rattle.um_model.specs.Plan.{Scene, IsPlan, CausesOfPlan, NamesCycle, AreFree}
use Rattle.um_model.specs.Reached.{Reached}
use Rattle.um_model.specs.Timers.{Timers, IsDueFirst}
use Rattle.um_model.specs.Weight.{weight_of}
use Rattle.um_model.specs.declared.commands.JobMode.{JobMode}
use Rattle.um_model.specs.declared.commands.UnitVerb.{UnitVerb}
use Rattle.um_model.specs.declared.commands.UnitVerb.TheVariants as verbs
use Rattle.um_model.specs.declared.dependencies.Demand.{Demand}
use Rattle.um_model.specs.declared.dependencies.Demand.TheVariants as demands
use Rattle.um_model.specs.declared.dependencies.DependencyKind.TheVariants.{Requires, BindsTo}
use Rattle.um_model.specs.declared.install.Enabling.{Enabling}
use Rattle.um_model.specs.declared.install.InstallVerb.{InstallVerb}
use Rattle.um_model.specs.declared.jobs.JobKind.{JobKind}
use Rattle.um_model.specs.declared.jobs.JobKind.TheVariants as job
use Rattle.um_model.specs.declared.jobs.JobState.{JobState}
use Rattle.um_model.specs.declared.jobs.JobState.TheVariants.{Waiting, Running}
use Rattle.um_model.specs.declared.jobs.UnitJobs.{UnitJobs}
use Rattle.um_model.specs.declared.profile.Profile.{Profile}
use Rattle.um_model.specs.declared.service.ActiveState.{ActiveState}
use Rattle.um_model.specs.declared.service.End.{End}
use Rattle.um_model.specs.declared.refusals.Limit.TheVariants.{Units}
use Rattle.um_model.specs.declared.service.SubState.{SubState}
use Rattle.um_model.specs.declared.service.SubState.TheVariants.{Dead, Failed, AutoRestart}
use Rattle.um_model.specs.declared.service.UnitResult.TheVariants.{Dependency}
use Rattle.um_model.specs.declared.service.UnitState.{UnitState}
use Rattle.um_model.specs.declared.transition.Around.{Around}
use Rattle.um_model.specs.declared.transition.Change.{Change}
use Rattle.um_model.specs.declared.transition.StartJob.TheVariants.{Fails}
use Rattle.um_model.specs.declared.transition.UnitEvent.{UnitEvent}
use Rattle.um_model.specs.declared.transition.UnitEvent.TheVariants.{StartBegins, StopBegins, BoundStop, Executed, MainEnds, ControlEnds, DeadlinePasses, Reset}
use Rattle.um_model.specs.declared.transition.UnitKind.TheVariants.{Simple}
use Rattle.um_model.specs.declared.units.LoadState.{LoadState}
use Rattle.um_model.specs.declared.units.LoadState.TheVariants as load_state

-- the longest id of a boot, in bytes
abbrev pub boot_limit : ℕ
boot_limit = 64

-- the state of the manager
pub record State : Type 0 where
  pub tree : Tree  -- the tree in hand
  pub loaded : ReadTree  -- the tree as it was last loaded, and the profile by which it is read
  pub boot : List ℕ  -- the boot's id
  pub clock : ℕ  -- the moment of the last step, in microseconds
  pub next : ℕ  -- the next process number
  pub units : ByUnit UnitState  -- those that differ from a dead unit
  pub pending : ByUnit UnitJobs  -- those with a pending job

-- the empty state of this profile
abbrev pub empty_of : Profile → State
empty_of profile = record {
  tree = map.empty;
  loaded = read_by profile map.empty;
  boot = [];
  clock = 0;
  next = 1;
  units = map.empty;
  pending = map.empty;
}

-- the state of a new store
abbrev pub empty_state : State
empty_state = empty_of current

-- a command to the manager, which may be refused
pub data Command : Type 0 where
  -- put the text into the tree as the file at the path
  PutFile : (path text : List ℕ) → Command
  -- put a link to the target into the tree at the path
  PutLink : (path target : List ℕ) → Command
  -- remove the entry of the tree at the path
  Remove : (path : List ℕ) → Command
  -- load the tree in hand
  DaemonReload : Command
  -- start a unit, stop it or restart it; pending jobs in the way are dropped, or the command is refused
  ForUnit : (verb : UnitVerb) (unit : List ℕ) (mode : JobMode) → Command
  -- drop the waiting jobs of a unit
  Cancel : (unit : List ℕ) → Command
  -- forget that a unit failed, or of all units that they did
  ResetFailed : (unit : Option (List ℕ)) → Command
  -- enable, disable, mask or unmask a unit, and load the resulting tree
  Install : (verb : InstallVerb) (unit : List ℕ) → Command

-- something that happens to the manager, which is never refused
pub data Happening : Type 0 where
  -- the process of this number ended
  ProcessEnded : (number : ℕ) (end : End) → Happening
  -- the program of the process of this number runs
  ProcessExecuted : (number : ℕ) → Happening
  -- time has passed
  Tick : Happening
  -- the machine was booted, and the boot has this id
  Booted : (boot : List ℕ) → Happening

-- an event: a command or a happening
pub data Event : Type 0 where
  Commanded : Command → Event
  Happened : Happening → Event

-- an event with its moment, in microseconds, and the profile by which the tree in hand is read for it
pub record Input : Type 0 where
  pub profile : Profile
  pub moment : ℕ
  pub event : Event

-- a query to the manager, which changes nothing
pub data Query : Type 0 where
  -- the unit and its state
  Show : (unit : List ℕ) → Query
  -- its active state: for whether it is active, and for whether it failed
  IsActive : (unit : List ℕ) → Query
  IsFailed : (unit : List ℕ) → Query
  -- its files in the tree in hand
  Cat : (unit : List ℕ) → Query
  -- how it is enabled in the tree in hand
  IsEnabled : (unit : List ℕ) → Query
  -- the known units
  ListUnits : Query
  -- the pending jobs
  ListJobs : Query

-- a unit as `show` presents it
pub record UnitShown : Type 0 where
  pub id : List ℕ
  pub load : LoadState
  pub description : List ℕ
  pub warnings : List Warning
  pub state : UnitState

-- a unit as `list-units` presents it
pub record UnitListed : Type 0 where
  pub unit : List ℕ
  pub sub : SubState

-- a reply
pub data Reply : Type 0 where
  Done : Reply
  Shown : UnitShown → Reply
  Activity : ActiveState → Reply
  Files : List UnitFile → Reply
  -- the paths at which links were made, and those at which they were removed
  Relinked : (made removed : List (List ℕ)) → Reply
  EnabledAs : Enabling → Reply
  Listed : List UnitListed → Reply
  Jobs : List JobShown → Reply
  -- the actions since the last query for them
  Told : List Action → Reply
  Refusal : Refused → Reply

abbrev pub shown_without_settings : List ℕ → LoadState → UnitState → UnitShown
shown_without_settings unit load state = record { id = unit; load = load; description = []; warnings = []; state = state }

-- a description and warnings are shown of a loaded unit alone
abbrev pub shown_of : List ℕ → Loading → UnitState → UnitShown
shown_of asked (Found l) state =
    record { id = l.name; load = load_state.Loaded; description = l.settings.description; warnings = l.warnings; state = state }
shown_of asked (Masked unit) state = shown_without_settings unit load_state.Masked state
shown_of asked NotFound state = shown_without_settings asked load_state.NotFound state
shown_of asked (BadSetting unit reason) state = shown_without_settings unit load_state.BadSetting state

-- the unit that counts for the given name, by the loaded tree
abbrev pub unit_asked : State → List ℕ → List ℕ
unit_asked s asked = unit_named s.loaded.entries asked

abbrev pub state_asked : State → List ℕ → UnitState
state_asked s asked = state_of_unit s.units (unit_asked s asked)

-- the files of a unit, if it is found and not masked
abbrev pub files_told : Tree → List ℕ → Resolution → Reply
files_told tree asked (AtMask unit) = Refusal (masked unit)
files_told tree asked Nowhere = Refusal (not_found asked)
files_told tree asked found = Files (files_at tree found)

-- ---- which units count

-- the state holds something of the unit: a unit state, or a pending job
abbrev pub IsHeld : State → List ℕ → Type 0
IsHeld s unit = (map.get s.units unit ≢ None) ⊎ (map.get s.pending unit ≢ None)

-- while a plan for a unit is made, that unit counts along with those that are held
abbrev pub IsHeldOr : State → List ℕ → List ℕ → Type 0
IsHeldOr s named unit = IsHeld s unit ⊎ (unit ≡ named)

-- the list has just the units with the property, in the order of their names
pub record AreByName (Is : List ℕ → Type 0) (names : List (List ℕ)) : Type 0 where
  pub each : (unit : List ℕ) → Contains names unit ↔ Is unit
  pub sorted : AllPairs IsNamedBefore names

abbrev pub unit_listed : State → List ℕ → UnitListed
unit_listed s unit = record { unit = unit; sub = (state_of_unit s.units unit).sub }

-- the reply to a query
pub data IsReplyTo (s : State) : Query → Reply → Type 0 where
  shows : {asked : List ℕ} → IsReplyTo s (Show asked) (Shown (shown_of asked (load s.loaded asked) (state_asked s asked)))
  tells_activity : {asked : List ℕ} → IsReplyTo s (IsActive asked) (Activity (active_state_of (state_asked s asked).sub))
  tells_failure : {asked : List ℕ} → IsReplyTo s (IsFailed asked) (Activity (active_state_of (state_asked s asked).sub))
  tells_files : {asked : List ℕ} → IsReplyTo s (Cat asked) (files_told s.tree asked (resolution_of s.tree asked))
  tells_enabling : {asked : List ℕ} {answer : Enabling} → IsEnabledAs (read_by current s.tree) asked answer → IsReplyTo s (IsEnabled asked) (EnabledAs answer)
  lists_units : {names : List (List ℕ)} → AreByName (IsKnown s.loaded (IsHeld s)) names → IsReplyTo s ListUnits (Listed (each (unit_listed s) names))
  lists_jobs : IsReplyTo s ListJobs (Jobs (jobs_shown s.pending))

-- ---- the events of one unit

-- the settings that a unit acts by: its own if it can be loaded, else those of a simple service without any setting
abbrev pub settings_in : ReadTree → List ℕ → ServiceSettings
settings_in tree unit = option_map_or (λ l. l.settings.service) (loadable_in tree unit) (default_settings Simple)

abbrev pub is_waiting : Option JobState → Bool
is_waiting (Some Waiting) = true
is_waiting other = false

-- the surroundings of the unit at the moment t
abbrev pub around : ℕ → State → List ℕ → Around
around t s unit =
    record { moment = t; next = s.next; loadable = is_some (loadable_in s.loaded unit); stop_waits = is_waiting (jobs_of_unit s.pending unit).stop }

-- the change of the unit by an event at the moment t
abbrev pub change_of : ℕ → State → List ℕ → UnitEvent → Change
change_of t s unit event = transition (settings_in s.loaded unit) (around t s unit) (state_of_unit s.units unit) event

-- the state after this change of the unit
abbrev pub changed : State → List ℕ → Change → State
changed s unit c = record s {
  units = with_unit s.units unit c.unit;
  pending = with_jobs s.pending unit (jobs_left c.start c.stop_ends (jobs_of_unit s.pending unit));
  next = s.next + spawned c.order;
}

-- ---- a start that fails

-- the order of units by a tree
abbrev pub IsBefore : ReadTree → List ℕ → List ℕ → Type 0
IsBefore tree = Precedes tree (λ unit. ⊤)

-- the start of a unit waits for that of another, which it requires or is bound to
pub record NeedsStart (s : State) (other unit : List ℕ) : Type 0 where
  pub needs : Depends s.loaded (λ unit. ⊤) Requires unit other ⊎ Depends s.loaded (λ unit. ⊤) BindsTo unit other
  pub later : IsBefore s.loaded other unit
  pub waits : (jobs_of_unit s.pending unit).start ≡ Some Waiting

-- the units whose starts a failed start takes along: those that need it, and so on for those
abbrev pub IsTakenAlong : State → List ℕ → List ℕ → Type 0
IsTakenAlong s failed = Reached (NeedsStart s failed) (NeedsStart s)

-- the starts that the failed start of a unit takes along are gone, and their units have the result `dependency`
pub record TakesAlong (s : State) (failed : List ℕ) (s' : State) : Type 0 where
  pub starts : (unit : List ℕ) → IsTakenAlong s failed unit → jobs_of_unit s'.pending unit ≡ without_start (jobs_of_unit s.pending unit)
  pub results : (unit : List ℕ) → IsTakenAlong s failed unit → state_of_unit s'.units unit ≡ record (state_of_unit s.units unit) { result = Dependency }
  pub other_jobs : (unit : List ℕ) → ¬ IsTakenAlong s failed unit → jobs_of_unit s'.pending unit ≡ jobs_of_unit s.pending unit
  pub other_units : (unit : List ℕ) → ¬ IsTakenAlong s failed unit → state_of_unit s'.units unit ≡ state_of_unit s.units unit
  pub tidy_jobs : AreTidyJobs s'.pending
  pub tidy_units : AreTidyUnits s'.units
  pub rest : s' ≡ record s { units = s'.units; pending = s'.pending }

-- the state after a change of a unit: if the change fails its running start job, the starts that this takes along are gone
pub data Becomes (s : State) (unit : List ℕ) (c : Change) : State → Type 0 where
  alone : ¬ ((c.start ≡ Fails) × ((jobs_of_unit s.pending unit).start ≡ Some Running)) → Becomes s unit c (changed s unit c)
  along : {s' : State} → (c.start ≡ Fails) × ((jobs_of_unit s.pending unit).start ≡ Some Running) → TakesAlong (changed s unit c) unit s' → Becomes s unit c s'

-- an event of a unit at the moment t is carried out, for that unit by itself
pub record Carries (t : ℕ) (unit : List ℕ) (event : UnitEvent) (s : State) (actions : List Action) (s' : State) : Type 0 where
  pub state : Becomes s unit (change_of t s unit event) s'
  pub asked : AreActions (settings_in s.loaded unit) (around t s unit) (change_of t s unit event).unit (change_of t s unit event).order actions

-- ---- the units that fall with one

-- the unit came to rest from one state to the other, dead or failed now, and the other unit, which is active or activating, is bound to it
pub record FallsWith (s u : State) (unit other : List ℕ) : Type 0 where
  pub rests : ((state_of_unit u.units unit).sub ≡ Dead) ⊎ ((state_of_unit u.units unit).sub ≡ Failed)
  pub anew : (state_of_unit s.units unit).sub ≢ (state_of_unit u.units unit).sub
  pub goes : is_going (active_state_of (state_of_unit u.units other).sub) ≡ true
  pub bound : Depends s.loaded (λ x. ⊤) BindsTo other unit

-- these units get a bound stop, one after another; if one comes to rest by that, those bound to it come before the others
pub data FallDown (t : ℕ) : List (List ℕ) → State → List Action → State → Type 0 where
  all_told : {s : State} → FallDown t [] s [] s
  told_next : {unit : List ℕ} {units falling : List (List ℕ)} {s u v : State} {first more : List Action} → Carries t unit BoundStop s first u
      → AreByName (FallsWith s u unit) falling → FallDown t (falling ++ units) u more v → FallDown t (unit ∷ units) s (first ++ more) v

-- an event of a unit at the moment t is carried out, with all units that fall with it
pub data Happens (t : ℕ) (unit : List ℕ) (event : UnitEvent) (s : State) : List Action → State → Type 0 where
  happens : {falling : List (List ℕ)} {u v : State} {first more : List Action} → Carries t unit event s first u → AreByName (FallsWith s u unit) falling
      → FallDown t falling u more v → Happens t unit event s (first ++ more) v

-- ---- jobs begin

-- the event that a job's beginning is for its unit
abbrev pub begins : JobKind → UnitEvent
begins job.Start = StartBegins
begins job.Stop = StopBegins

-- the state with that job running
abbrev pub begun : State → Job → State
begun s j = record s { pending = with_jobs s.pending j.unit (with_job j.kind Running (jobs_of_unit s.pending j.unit)) }

-- no job is ready to begin
abbrev pub IsStill : State → Type 0
IsStill s = (j : Job) → ¬ IsReady (IsBefore s.loaded) s.units s.pending j

-- jobs begin, one after another, until none is ready
pub data Settles (t : ℕ) : State → List Action → State → Type 0 where
  rests : {s : State} → IsStill s → Settles t s [] s
  begins_next : {s u v : State} {first more : List Action} (j : Job) → BeginsNext (IsBefore s.loaded) s.units s.pending j
      → Happens t j.unit (begins j.kind) (begun s j) first u → Settles t u more v → Settles t s (first ++ more) v

-- ---- the effect of a command

-- why a unit can't be started, by the result of its loading
pub data CannotStart (asked : List ℕ) : Loading → Refused → Type 0 where
  isnt_found : CannotStart asked NotFound (not_found asked)
  is_masked : {unit : List ℕ} → CannotStart asked (Masked unit) (masked unit)
  has_bad_setting : {unit reason : List ℕ} → CannotStart asked (BadSetting unit reason) (bad_setting unit reason)
  is_a_template : {l : LoadedUnit} → is_template l.name ≡ true → CannotStart asked (Found l) (bad_setting l.name (codes "template"))

abbrev pub active_asked : State → List ℕ → ActiveState
active_asked s asked = active_state_of (state_asked s asked).sub

-- the demand of a command on its unit: a try-restart demands nothing if that isn't active
abbrev pub demand_of : UnitVerb → ActiveState → Option Demand
demand_of verbs.Start a = Some demands.Start
demand_of verbs.Stop a = Some demands.Stop
demand_of verbs.Restart a = Some demands.Restart
demand_of verbs.TryRestart a = if is_active a then Some demands.Restart else None

abbrev pub jobs_asked : State → List ℕ → UnitJobs
jobs_asked s asked = jobs_of_unit s.pending (unit_asked s asked)

-- the scene from which the plan for a unit is made
abbrev pub scene_at : State → List ℕ → Scene
scene_at s named = record {
  Depends = Depends s.loaded (IsHeldOr s named);
  IsBefore = Precedes s.loaded (IsHeldOr s named);
  IsLoadable = λ unit. loadable_in s.loaded unit ≢ None;
  CannotStart = λ unit. CannotStart unit (load s.loaded unit);
  activity = λ unit. active_state_of (state_of_unit s.units unit).sub;
  pending = s.pending;
}

-- Why a command for a unit is refused.

-- the unit is neither found in the loaded tree nor held in the state
pub record IsMissing (s : State) (asked : List ℕ) (r : Refused) : Type 0 where
  pub isnt_found : load s.loaded asked ≡ NotFound
  pub isnt_held : map.get s.units asked ≡ None
  pub refusal : r ≡ not_loaded asked

-- a stop or a try-restart needs a unit that is there already, and the unit is missing
pub data IsNotThere (s : State) : UnitVerb → List ℕ → Refused → Type 0 where
  to_stop : {asked : List ℕ} {r : Refused} → IsMissing s asked r → IsNotThere s verbs.Stop asked r
  to_try_restart : {asked : List ℕ} {r : Refused} → IsMissing s asked r → IsNotThere s verbs.TryRestart asked r

-- more units would be known than may be, by the tree or by it without its entries under `run/`
pub record IsCrowded (tree : ReadTree) (Extra : List ℕ → Type 0) (r : Refused) : Type 0 where
  pub many : KnowsTooMany tree Extra ⊎ KnowsTooMany (lasting_tree tree) Extra
  pub refusal : r ≡ too_large Units

-- more units would be known than may be: with the one that is named, or with the jobs of the plan for the demand
pub data PlansTooMany (s : State) (verb : UnitVerb) (asked : List ℕ) (r : Refused) : Type 0 where
  by_name : IsCrowded s.loaded (IsHeldOr s (unit_asked s asked)) r → PlansTooMany s verb asked r
  by_jobs : {demand : Demand} {after : ByUnit UnitJobs} → demand_of verb (active_asked s asked) ≡ Some demand
      → IsPlan (scene_at s (unit_asked s asked)) (demand, unit_asked s asked) after → IsCrowded s.loaded (IsHeld (record s { pending = after })) r
      → PlansTooMany s verb asked r

-- the demand has a plan, and that is refused
pub record HasNoPlan (s : State) (verb : UnitVerb) (asked : List ℕ) (mode : JobMode) (r : Refused) : Type 0 where
  pub demand : Demand
  pub demanded : demand_of verb (active_asked s asked) ≡ Some demand
  pub after : ByUnit UnitJobs
  pub plan : IsPlan (scene_at s (unit_asked s asked)) (demand, unit_asked s asked) after
  pub cause : CausesOfPlan (scene_at s (unit_asked s asked)) (demand, unit_asked s asked) mode after r

-- Why the waiting jobs of a unit aren't dropped.

-- no job of the unit waits
pub record HasNoneWaiting (s : State) (asked : List ℕ) (r : Refused) : Type 0 where
  pub none : (kind : JobKind) → job_of kind (jobs_asked s asked) ≢ Some Waiting
  pub refusal : r ≡ no_such_job (unit_asked s asked)

-- Why a tree isn't loaded: too many units would be known, or the pending jobs would wait for one another in a circle.

abbrev pub CausesOfLoad : State → ReadTree → Refused → Type 0
CausesOfLoad s tree = FirstCause (IsCrowded tree (IsHeld s)) (NamesCycle (IsBefore tree) s.pending)

-- the tree as it is read once it is loaded for an input of this profile: by that profile, or by the loaded one if that is later
abbrev pub as_loaded : Profile → State → Tree → ReadTree
as_loaded profile s tree = read_by (later s.loaded.profile profile) tree

-- for such a cause the tree that enabling or its kin would give isn't loaded
pub record LoadsNone (profile : Profile) (s : State) (verb : InstallVerb) (unit : List ℕ) (Cause : ReadTree → Refused → Type 0) (r : Refused) : Type 0 where
  pub tree : Tree
  pub installs : Installs (read_by profile s.tree) verb unit tree
  pub cause : Cause (as_loaded profile s tree) r

-- a command in an input of this profile is refused for the first of its causes that holds
abbrev pub Refuses : Profile → State → Command → Refused → Type 0
Refuses profile s (PutFile path text) r = put_file s.tree path text ≡ Err r
Refuses profile s (PutLink path target) r = put_link s.tree path target ≡ Err r
Refuses profile s (Remove path) r = remove_at s.tree path ≡ Err r
Refuses profile s DaemonReload r = CausesOfLoad s (as_loaded profile s s.tree) r
Refuses profile s (ForUnit verb asked mode) r = FirstCause (PlansTooMany s verb asked) (FirstCause (IsNotThere s verb asked) (HasNoPlan s verb asked mode)) r
Refuses profile s (Cancel asked) r = FirstCause (IsMissing s asked) (HasNoneWaiting s asked) r
Refuses profile s (ResetFailed (Some asked)) r = IsMissing s asked r
Refuses profile s (ResetFailed None) r = ⊥
Refuses profile s (Install verb unit) r =
    FirstCause (RefusesLinks (read_by profile s.tree) verb unit)
    (FirstCause (LoadsNone profile s verb unit (λ tree. IsCrowded tree (IsHeld s)))
    (FirstCause (RefusesUnits (read_by profile s.tree) verb unit) (LoadsNone profile s verb unit (λ tree. NamesCycle (IsBefore tree) s.pending)))) r

-- the state with these pending jobs of the unit
abbrev pub with_plan : State → List ℕ → UnitJobs → State
with_plan s unit jobs = record s { pending = with_jobs s.pending unit jobs }

-- the change of the state by a command that isn't refused, in an input of this profile, before any job begins
pub data Changes (profile : Profile) (s : State) : Command → State → Type 0 where
  puts : {path text : List ℕ} {tree : Tree} → put_file s.tree path text ≡ Ok tree → Changes profile s (PutFile path text) (record s { tree = tree })
  links : {path target : List ℕ} {tree : Tree} → put_link s.tree path target ≡ Ok tree → Changes profile s (PutLink path target) (record s { tree = tree })
  removes : {path : List ℕ} {tree : Tree} → remove_at s.tree path ≡ Ok tree → Changes profile s (Remove path) (record s { tree = tree })
  reloads : Changes profile s DaemonReload (record s { loaded = as_loaded profile s s.tree })
  plans : {verb : UnitVerb} {asked : List ℕ} {mode : JobMode} {demand : Demand} {after : ByUnit UnitJobs} → demand_of verb (active_asked s asked) ≡ Some demand
      → IsPlan (scene_at s (unit_asked s asked)) (demand, unit_asked s asked) after → Changes profile s (ForUnit verb asked mode) (record s { pending = after })
  demands_nothing : {verb : UnitVerb} {asked : List ℕ} {mode : JobMode} → demand_of verb (active_asked s asked) ≡ None
      → Changes profile s (ForUnit verb asked mode) s
  cancels : {asked : List ℕ} → Changes profile s (Cancel asked) (with_plan s (unit_asked s asked) (cancelled (jobs_asked s asked)))
  installs : {verb : InstallVerb} {unit : List ℕ} {tree : Tree} → Installs (read_by profile s.tree) verb unit tree
      → Changes profile s (Install verb unit) (record s { tree = tree; loaded = as_loaded profile s tree })

-- the units whose failures are forgotten: the given one, or all whose unit states are held, by name
abbrev pub units_reset : State → Option (List ℕ) → List (List ℕ)
units_reset s (Some asked) = unit_asked s asked ∷ []
units_reset s None = each (λ e. e.0) (map.entries s.units)

-- of these units the failures are forgotten, one after another
pub data AreReset (t : ℕ) : List (List ℕ) → State → List Action → State → Type 0 where
  all_reset : {s : State} → AreReset t [] s [] s
  reset_next : {unit : List ℕ} {units : List (List ℕ)} {s u v : State} {first more : List Action} → Happens t unit Reset s first u
      → AreReset t units u more v → AreReset t (unit ∷ units) s (first ++ more) v

-- the effect at the moment t of a command that isn't refused, before any job begins, with the actions for processes
pub data Does (profile : Profile) (t : ℕ) (s : State) : Command → List Action → State → Type 0 where
  changes : {command : Command} {u : State} → Changes profile s command u → Does profile t s command [] u
  resets : {asked : Option (List ℕ)} {actions : List Action} {u : State} → AreReset t (units_reset s asked) s actions u
      → Does profile t s (ResetFailed asked) actions u

-- ---- the effect of a happening

-- the unit of the live process with the number: of several that with the least name
abbrev pub IsProcessOf : ByUnit UnitState → ℕ → List ℕ → Type 0
IsProcessOf units number = IsLeast IsNamedBefore (λ unit. HasNumber (state_of_unit units unit) number)

-- no live process has the number
abbrev pub IsOver : ByUnit UnitState → ℕ → Type 0
IsOver units number = (unit : List ℕ) → ¬ HasNumber (state_of_unit units unit) number

-- the event that the end of that process is for its unit
abbrev pub end_of : UnitState → ℕ → End → UnitEvent
end_of u number end = if is_number number u.main then MainEnds end else ControlEnds end

-- the deadlines of the units
abbrev pub AreDeadlines : ByUnit UnitState → Timers → Type 0
AreDeadlines units timers = (unit : List ℕ) → map.get timers unit ≡ (state_of_unit units unit).deadline

-- the state with a start of the unit as its one job
abbrev pub with_start_alone : State → List ℕ → State
with_start_alone s unit = with_plan s unit (jobs None (Some Waiting))

-- an automatic restart puts a start of the unit, unless a job of it is pending or the pending jobs would then wait for one another in a circle
pub data Restarts (s : State) (unit : List ℕ) : State → Type 0 where
  puts : jobs_of_unit s.pending unit ≡ no_jobs → AreFree (IsBefore s.loaded) (with_start_alone s unit).pending
      → Restarts s unit (with_start_alone s unit)
  isnt_put : ¬ ((jobs_of_unit s.pending unit ≡ no_jobs) × AreFree (IsBefore s.loaded) (with_start_alone s unit).pending) → Restarts s unit s

-- a deadline of the unit is due: the automatic restart follows if the unit waits for that, else the unit's deadline passes
pub data ComesDue (t : ℕ) (s : State) (unit : List ℕ) : List Action → State → Type 0 where
  restarts : {u : State} → (state_of_unit s.units unit).sub ≡ AutoRestart → Restarts s unit u → ComesDue t s unit [] u
  passes : {actions : List Action} {u : State} → (state_of_unit s.units unit).sub ≢ AutoRestart
      → Happens t unit DeadlinePasses s actions u → ComesDue t s unit actions u

-- a deadline of the unit fires at the moment t, and jobs begin, if it still stands; one that is gone or changed by then doesn't
pub data FiresOne (t deadline : ℕ) (unit : List ℕ) (s : State) : List Action → State → Type 0 where
  fires : {u v : State} {first next : List Action} → (state_of_unit s.units unit).deadline ≡ Some deadline → ComesDue t s unit first u
      → Settles t u next v → FiresOne t deadline unit s (first ++ next) v
  is_gone : (state_of_unit s.units unit).deadline ≢ Some deadline → FiresOne t deadline unit s [] s

-- of these deadlines those up to the moment t fire, earliest first
pub data Fires (t : ℕ) : Timers → State → List Action → State → Type 0 where
  none_due : {timers : Timers} {s : State} → ((deadline : ℕ) (unit : List ℕ) → map.get timers unit ≡ Some deadline → t < deadline) → Fires t timers s [] s
  fires_next : {timers : Timers} {s u v : State} {first more : List Action} (deadline : ℕ) (unit : List ℕ) → IsDueFirst timers deadline unit → deadline ≤ t
      → FiresOne t deadline unit s first u → Fires t (map.remove timers unit) u more v → Fires t timers s (first ++ more) v

-- the unit waits for the report that the program of its main process runs, and that process has this number
pub record AwaitsReport (s : State) (number : ℕ) (unit : List ℕ) : Type 0 where
  pub starts : waits_for_report (state_of_unit s.units unit).sub ≡ true
  pub kind : has_one_command (settings_in s.loaded unit).kind ≡ true
  pub main : (state_of_unit s.units unit).main ≡ Some number

-- the state after a boot with this id: nothing is held of any unit, and the entries under `run/` are gone; process numbers go on
abbrev pub booted : List ℕ → State → State
booted boot s = record s { tree = without_run s.tree; loaded = lasting_tree s.loaded; boot = boot; units = map.empty; pending = map.empty }

-- a happening takes effect at the moment t, and then jobs begin that are ready
pub data Follows (t : ℕ) (s : State) : Happening → List Action → State → Type 0 where
  ends : {number : ℕ} {end : End} {first more : List Action} {u v : State} (unit : List ℕ) → IsProcessOf s.units number unit
      → Happens t unit (end_of (state_of_unit s.units unit) number end) s first u → Settles t u more v → Follows t s (ProcessEnded number end) (first ++ more) v
  reports : {number : ℕ} {first more : List Action} {u v : State} (unit : List ℕ) → IsProcessOf s.units number unit → AwaitsReport s number unit
      → Happens t unit Executed s first u → Settles t u more v → Follows t s (ProcessExecuted number) (first ++ more) v
  ticks : {actions : List Action} {v : State} (timers : Timers) → AreDeadlines s.units timers → Fires t timers s actions v → Follows t s Tick actions v
  boots : {boot : List ℕ} → Follows t s (Booted boot) [] (booted boot s)

-- a happening without effect: the end of a process that isn't live, a report for which no unit waits, a tick that changes nothing, the boot that is known
pub data HasNoEffect (t : ℕ) (s : State) : Happening → Type 0 where
  is_over : {number : ℕ} {end : End} → IsOver s.units number → HasNoEffect t s (ProcessEnded number end)
  isnt_awaited : {number : ℕ} → ((unit : List ℕ) → IsProcessOf s.units number unit → ¬ AwaitsReport s number unit) → HasNoEffect t s (ProcessExecuted number)
  is_idle : Follows t s Tick [] s → HasNoEffect t s Tick
  is_known : {boot : List ℕ} → boot ≡ s.boot → HasNoEffect t s (Booted boot)

-- the moment of a step: the input's, or the clock's if that is later
abbrev pub moment_of : State → ℕ → ℕ
moment_of s moment = max s.clock moment

-- an event takes effect at the moment t, by its input's profile: a command that isn't refused changes the state and jobs begin; a happening
-- has the effect that follows from it
pub data TakesEffect (profile : Profile) (t : ℕ) (s : State) : Event → List Action → State → Type 0 where
  obeys : {command : Command} {first more : List Action} {u v : State} → ((r : Refused) → ¬ Refuses profile s command r) → Does profile t s command first u
      → Settles t u more v → TakesEffect profile t s (Commanded command) (first ++ more) v
  meets : {happening : Happening} {actions : List Action} {v : State} → ¬ HasNoEffect t s happening → Follows t s happening actions v
      → TakesEffect profile t s (Happened happening) actions v

-- the reply to an event that takes effect: enabling and its kin report the paths that they made and removed
abbrev pub reply_after : Event → (before after : Tree) → Reply
reply_after (Commanded (Install verb unit)) before after = Relinked (paths_beyond before after) (paths_beyond after before)
reply_after other before after = Done

-- the state weighs more than a store of `size` bytes holds
pub record IsTooHeavy (size : ℕ) (s : State) : Type 0 where
  pub units : ℕ
  pub count : CountsFor s.loaded (IsHeld s) units
  pub heavy : size < weight_of s.tree s.loaded.entries units

-- a command has no room: the resulting state is too heavy
abbrev pub HasNoRoom : ℕ → Event → State → Type 0
HasNoRoom size (Commanded command) u = IsTooHeavy size u
HasNoRoom size (Happened happening) u = ⊥

-- one step over a store of `size` bytes: a refused command or a happening without effect leaves the state as it is, clock included; an event
-- that takes effect sets the clock
pub data Step (size : ℕ) (s : State) : Input → Reply → List Action → State → Type 0 where
  refused : {profile : Profile} {moment : ℕ} {command : Command} {r : Refused} → Refuses profile s command r
      → Step size s (record { profile = profile; moment = moment; event = Commanded command }) (Refusal r) [] s
  crowded_out : {profile : Profile} {moment : ℕ} {event : Event} {actions : List Action} {u : State}
      → TakesEffect profile (moment_of s moment) s event actions u → HasNoRoom size event u
      → Step size s (record { profile = profile; moment = moment; event = event }) (Refusal no_room) [] s
  idle : {profile : Profile} {moment : ℕ} {happening : Happening} → HasNoEffect (moment_of s moment) s happening
      → Step size s (record { profile = profile; moment = moment; event = Happened happening }) Done [] s
  taken : {profile : Profile} {moment : ℕ} {event : Event} {actions : List Action} {u : State}
      → TakesEffect profile (moment_of s moment) s event actions u → ¬ HasNoRoom size event u
      → Step size s (record { profile = profile; moment = moment; event = event })
      (reply_after event s.tree u.tree) actions (record u { clock = moment_of s moment })

-- one step after another
pub data Run (size : ℕ) : State → List Input → State → Type 0 where
  rests : {s : State} → Run size s [] s
  goes : {s t u : State} {input : Input} {inputs : List Input} (reply : Reply) (actions : List Action)
      → Step size s input reply actions t → Run size t inputs u → Run size s (input ∷ inputs) u
