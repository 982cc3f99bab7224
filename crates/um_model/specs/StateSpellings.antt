-- Canonical bytes of the state of the manager: its trees, its units and its pending jobs.
-- No manual page has this: it is the project's own format (docs/FORMATS.md, "Canonical bytes").
-- The code that reads and writes states, and the slots of the store depend on this file.
use Rattle.std.specs.Prelude.{◌≡◌, ℕ, nat_lt, nat_le, Bool, true, not, ◌&&◌, ◌==◌, List, [], ◌∷◌, ◌++◌, length, flat_map}
use Rattle.std.specs.List.{list_all}
use Rattle.std.specs.Ordering.{is_lt, nat_cmp, ordering_then}
use Rattle.std.specs.Cmp.Lexicographic.{slice_cmp}
use Rattle.std.specs.FinMap as map
use Rattle.std.specs.Option.{option_map_or}
use Rattle.byteorder.specs.Endian.{big_bytes}
use Rattle.um_model.specs.Bytes.{Spelling, Decoder, pair_at, as_at, only_at, choice_at, arm_in, FitText, text_spelling, text_at, table_at, tagged, all_ascend}
use Rattle.um_model.specs.Bytes.{FitList, list_spelling, list_at, FitMap, map_spelling, map_at}
use Rattle.um_model.specs.Names.{is_unit_name}
use Rattle.um_model.specs.Tree.{Tree, Entry, File, Link, IsTree, is_fit_entry, entry_limit}
use Rattle.um_model.specs.Service.{ByUnit, AreTidyUnits, holds_nothing}
use Rattle.um_model.specs.Transitions.{live_numbers}
use Rattle.um_model.specs.Jobs.{AreTidyJobs, JobShown, jobs_of_unit, jobs_shown, with_job}
use Rattle.um_model.specs.Machine.{State, boot_limit}
use Rattle.um_model.specs.Profiles.{read_by, serves_start_pre}
use Rattle.um_model.specs.Spellings.{profile_tag, profile_at, kind_tag, moment_at, FitMoment, next_at, FitNext, job_state_tag, kinds, job_states}
use Rattle.um_model.specs.Spellings.{unit_name_at, FitUnitName, unit_spelling, unit_at, FitUnit}
use Rattle.um_model.specs.declared.jobs.JobKind.{JobKind}
use Rattle.um_model.specs.declared.jobs.JobState.{JobState}
use Rattle.um_model.specs.declared.jobs.UnitJobs.{UnitJobs}
use Rattle.um_model.specs.declared.profile.Profile.{Profile}
use Rattle.um_model.specs.declared.service.SubState.{SubState}
use Rattle.um_model.specs.declared.service.SubState.TheVariants.{StartPre}
use Rattle.um_model.specs.declared.service.UnitState.{UnitState}
use Rattle.um_model.specs.Weight.{text_of_entry}

-- ---- a tree: a map from paths to files and links

-- the tag of an entry
abbrev pub entry_tag : Entry → ℕ
entry_tag (File text) = 0
entry_tag (Link target) = 1

-- the tag, and the text or target after it
abbrev pub entry_spelling : Spelling Entry
entry_spelling e = entry_tag e ∷ text_spelling (text_of_entry e)

-- the entries by their tags
abbrev pub entry_arms : List (Decoder Entry)
entry_arms = as_at File text_at ∷ as_at Link text_at ∷ []

-- a tag, and the text or target after it
abbrev pub entry_at : Decoder Entry
entry_at = choice_at (arm_in entry_arms)

-- an entry that has bytes: its text or target has some
abbrev pub FitEntry : Entry → Type 0
FitEntry e = FitText (text_of_entry e)

-- each text is a key
abbrev pub any_text : List ℕ → Bool
any_text text = true

-- the list of the entries, by ascending paths
abbrev pub tree_spelling : Spelling Tree
tree_spelling = map_spelling entry_spelling

-- each entry may stand at its path, and there are no more than the limit
abbrev pub is_tree : Tree → Bool
is_tree tree = list_all (λ e. is_fit_entry e.0 e.1) (map.entries tree) && nat_le (map.len tree) entry_limit

-- a map of entries that is a tree
abbrev pub tree_at : Decoder Tree
tree_at = only_at is_tree (map_at any_text entry_at)

-- a tree that has bytes: each path, text and target has some
pub record FitTree (tree : Tree) : Type 0 where
  pub texts : FitMap any_text FitEntry tree
  pub is : IsTree tree

-- ---- the units: a map from unit names, without units that equal the dead one

-- the list of the units, by ascending names
abbrev pub units_spelling : Spelling (ByUnit UnitState)
units_spelling = map_spelling unit_spelling

-- no unit equals the dead one
abbrev pub are_known : ByUnit UnitState → Bool
are_known units = list_all (λ e. not (holds_nothing e.1)) (map.entries units)

-- a map of units that don't equal the dead one
abbrev pub units_at : Decoder (ByUnit UnitState)
units_at = only_at are_known (map_at is_unit_name unit_at)

-- units that have bytes: each has a name and bytes, and none equals the dead one
pub record FitUnits (units : ByUnit UnitState) : Type 0 where
  pub named : FitMap is_unit_name FitUnit units
  pub tidy : AreTidyUnits units

-- ---- the pending jobs: a list in the bytes, a map in the state

-- the name of its unit, its kind, and how far it is
abbrev pub job_spelling : Spelling JobShown
job_spelling j = text_spelling j.unit ++ (tagged kind_tag j.kind ++ tagged job_state_tag j.state)

-- the job of its fields
abbrev pub job_of_fields : List ℕ × (JobKind × JobState) → JobShown
job_of_fields (unit, (kind, state)) = record { unit = unit; kind = kind; state = state }

-- the name of a unit, the job's kind, and how far it is
abbrev pub job_at : Decoder JobShown
job_at = as_at job_of_fields (pair_at unit_name_at (pair_at (table_at kinds) (table_at job_states)))

-- one job stands before another: by the names of their units, and of one unit the stop job first
abbrev pub is_job_before : JobShown → JobShown → Bool
is_job_before j k = is_lt (ordering_then (slice_cmp nat_cmp j.unit k.unit) (nat_cmp (kind_tag j.kind) (kind_tag k.kind)))

-- jobs ascend so
abbrev pub jobs_ascend : List JobShown → Bool
jobs_ascend told = all_ascend is_job_before told

-- the jobs of a list, by unit
abbrev pub pending_of : List JobShown → ByUnit UnitJobs
pending_of [] = map.empty
pending_of (j ∷ more) = map.insert (pending_of more) j.unit (with_job j.kind j.state (jobs_of_unit (pending_of more) j.unit))

-- the list of the jobs, by ascending names of their units, of one unit the stop job first
abbrev pub pending_spelling : Spelling (ByUnit UnitJobs)
pending_spelling pending = list_spelling job_spelling (jobs_shown pending)

-- the jobs of a list in which each stands before the next
abbrev pub pending_at : Decoder (ByUnit UnitJobs)
pending_at = as_at pending_of (only_at jobs_ascend (list_at job_at))

-- pending jobs that have bytes: each has some, and a unit without a job stands for none
pub record FitPending (pending : ByUnit UnitJobs) : Type 0 where
  pub jobs : FitList (λ j. FitUnitName j.unit) (jobs_shown pending)
  pub tidy : AreTidyJobs pending

-- ---- the state: its loaded profile, and its other fields in order

-- the loaded profile as the first byte, and each field after the one before
abbrev pub state_spelling : Spelling State
state_spelling s =
    tagged profile_tag s.loaded.profile ++ (tree_spelling s.tree ++ (tree_spelling s.loaded.entries ++ (text_spelling s.boot ++ (big_bytes 8 s.clock
    ++ (big_bytes 8 s.next ++ (units_spelling s.units ++ pending_spelling s.pending))))))

-- the fields in their order
abbrev pub StateFields : Type 0
StateFields = Profile × (Tree × (Tree × (List ℕ × (ℕ × (ℕ × (ByUnit UnitState × ByUnit UnitJobs))))))

-- the state of its fields
abbrev pub state_of : StateFields → State
state_of (profile, (tree, (loaded, (boot, (clock, (next, (units, pending))))))) =
    record { tree = tree; loaded = read_by profile loaded; boot = boot; clock = clock; next = next; units = units; pending = pending }

-- a boot's id has no more bytes than the limit
abbrev pub is_boot : List ℕ → Bool
is_boot id = nat_le (length id) boot_limit

-- the id of a boot
abbrev pub boot_at : Decoder (List ℕ)
boot_at = only_at is_boot text_at

-- a boot's id that has bytes: it is a text, and no longer than that
abbrev pub FitBoot : List ℕ → Type 0
FitBoot id = FitText id × (is_boot id ≡ true)

-- no window began after the clock
abbrev pub have_begun : ℕ → ByUnit UnitState → Bool
have_begun clock units = list_all (λ e. option_map_or (λ c. nat_le c.began clock) e.1.window true) (map.entries units)

-- the numbers of the live processes of all units
abbrev pub numbers_in : ByUnit UnitState → List ℕ
numbers_in units = flat_map (λ e. live_numbers e.1) (map.entries units)

-- no number stands twice
abbrev pub are_distinct : List ℕ → Bool
are_distinct [] = true
are_distinct (n ∷ more) = list_all (λ m. not (m == n)) more && are_distinct more

-- a unit may be in this sub state by the profile: in start-pre only if that serves ExecStartPre=
abbrev pub is_sub_state_in : Profile → SubState → Bool
is_sub_state_in profile StartPre = serves_start_pre profile
is_sub_state_in profile other = true

-- all units may be in their sub states by the profile
abbrev pub have_sub_states : Profile → ByUnit UnitState → Bool
have_sub_states profile units = list_all (λ e. is_sub_state_in profile e.1.sub) (map.entries units)

-- the loaded profile has the sub states of all units, the clock is past the begin of each window, and the live numbers are distinct and below the next one
abbrev pub is_sound : State → Bool
is_sound s =
    have_sub_states s.loaded.profile s.units && have_begun s.clock s.units && list_all (λ n. nat_lt n s.next) (numbers_in s.units)
    && are_distinct (numbers_in s.units)

-- a profile, and each field after the one before, if they fit together
abbrev pub state_at : Decoder State
state_at =
    only_at is_sound (as_at state_of (pair_at profile_at (pair_at tree_at (pair_at tree_at (pair_at boot_at (pair_at moment_at (pair_at next_at
    (pair_at units_at pending_at))))))))

-- a state that has bytes: each of its fields has some, and they fit together
pub record FitState (s : State) : Type 0 where
  pub tree : FitTree s.tree
  pub loaded : FitTree s.loaded.entries
  pub boot : FitBoot s.boot
  pub clock : FitMoment s.clock
  pub next : FitNext s.next
  pub units : FitUnits s.units
  pub pending : FitPending s.pending
  pub sound : is_sound s ≡ true
