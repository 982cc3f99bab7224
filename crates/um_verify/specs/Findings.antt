-- The report on a unit before any manager has it: each reason why it can't be loaded, at its line, and the next as without that line.
-- Follows systemd.unit(5) in the meaning of `X-` before a key; the sentences are the project's own (docs/FORMATS.md, "The program").
-- `umd verify`, and the reasons that `umd status` gives for a unit that isn't loaded, stand on this file.
use Rattle.std.specs.Prelude.{◌≡◌, Ok, ◌⊎◌, ℕ, ◌+◌, ◌-◌, ◌≤◌, ◌==◌, ◌&&◌, not, Bool, true, false, List, [], ◌∷◌, ◌++◌, Option, Some, None}
use Rattle.std.specs.Prelude.{codes, count_by, decimal, drop, find, fold, if◌then◌else◌, length, map, option_map, slice_get, take}
use Rattle.std.specs.FinMap as finite
use Rattle.std.specs.List.{flat_map}
use Rattle.std.specs.Result.{result_unwrap_or}
use Rattle.std.specs.Str.{bytes_eq}
use Rattle.um_model.specs.Keys.{is_known_section, is_refused_key}
use Rattle.um_model.specs.Names.{suffix_of}
use Rattle.um_model.specs.Profiles.{current, read_by}
use Rattle.um_model.specs.Requests.{is_among}
use Rattle.um_model.specs.Resolution.{UnitFile, files_at, resolution_of}
use Rattle.um_model.specs.Syntax.{Item, Assignment, Placed}
use Rattle.um_model.specs.Text.{is_empty}
use Rattle.um_model.specs.Tree.{Tree, put_file}
use Rattle.um_model.specs.Units.{Assigned, BadSetting, Found, Loading, Source, Warning, load, source_of}
use Rattle.um_model.specs.declared.names.Suffix.{Suffix}
use Rattle.um_verify.specs.declared.obstacle.Reason.{Reason}
use Rattle.um_verify.specs.declared.obstacle.Reason.TheVariants.{Setting, ServiceType, Restart, ExecCount}
use Rattle.um_sentences.specs.Sentences.{further_command, key_sentence, key_why, no_command, restart_sentence, type_sentence}

-- ---- lines

-- the text about a line, or the whole file: `y.service:2: User= isn't served: every service runs as umd's user`
abbrev pub finding_text : (path : List ℕ) → (line : Option ℕ) → (told : List ℕ) → List ℕ
finding_text path None told = path ++ (codes ": " ++ told)
finding_text path (Some line) told = path ++ (codes ":" ++ (decimal line ++ (codes ": " ++ told)))

-- the physical line of this number begins at this place: `line - 1` line feeds stand before it, the last one directly
abbrev pub BeginsLine : (text : List ℕ) → (line place : ℕ) → Type 0
BeginsLine text line place =
    (place ≤ length text) × (count_by (λ b. b == 10) (take place text) + 1 ≡ line) × ((place ≡ 0) ⊎ (slice_get text (place - 1) ≡ Some 10))

-- the text with `X-` before that line, so that its assignment is skipped
abbrev pub IsMarked : (line : ℕ) → (text marked : List ℕ) → Type 0
IsMarked line text marked = (place : ℕ) × BeginsLine text line place × (marked ≡ take place text ++ (codes "X-" ++ drop place text))

-- ---- assignments

-- an assignment in a known section, with the path of its file and the number of its line
pub record Spot : Type 0 where
  pub path : List ℕ
  pub line : ℕ
  pub section : List ℕ
  pub key : List ℕ
  pub value : List ℕ

-- the assignment that an item is
abbrev pub spot_by : Option Suffix → List ℕ → Option (List ℕ) → Item → List Spot
spot_by type path (Some s) (Assignment k v line whole) =
    if is_known_section type s then record { path = path; line = line; section = s; key = k; value = v } ∷ [] else []
spot_by type path section other = []

-- those of a file
abbrev pub spots_in : Option Suffix → List ℕ → List Placed → List Spot
spots_in type path reading = flat_map (λ p. spot_by type path p.section p.item) reading

-- those of several files, in the order in which they are read
abbrev pub all_spots : Option Suffix → List Source → List Spot
all_spots type sources = flat_map (λ (s : Source). spots_in type s.path s.reading) sources

-- ---- the place of a reason

-- an assignment gives this key a value, in whatever section
abbrev pub gives : List ℕ → Spot → Bool
gives key s = bytes_eq s.key key && not (is_empty s.value)

-- the first assignment that gives it one
abbrev pub first_with : List ℕ → List Spot → Option Spot
first_with key spots = find (gives key) spots

-- the assignment as it counts for loading: without its place
abbrev pub assigned_at : Spot → Assigned
assigned_at s = record { section = s.section; key = s.key; value = s.value }

-- an assignment gives a value to a key that no unit may have
abbrev pub is_refused : Spot → Bool
is_refused s = is_refused_key current s.key && not (is_empty s.value)

-- the first assignment of that kind
abbrev pub first_refused : List Spot → Option Spot
first_refused spots = find is_refused spots

-- an assignment of [Service] gives this key one of these values
abbrev pub says : List ℕ → List (List ℕ) → Spot → Bool
says key values s = bytes_eq s.section (codes "Service") && bytes_eq s.key key && is_among s.value values

-- the last assignment of that kind
abbrev pub last_with : List ℕ → List (List ℕ) → List Spot → Option Spot
last_with key values spots = fold (λ last s. if says key values s then Some s else last) None spots

-- types of services that aren't served
abbrev pub unserved_types : List (List ℕ)
unserved_types = codes "notify" ∷ codes "notify-reload" ∷ codes "dbus" ∷ codes "forking" ∷ codes "idle" ∷ []

-- policies by which a service is started again after a success
abbrev pub unserved_policies : List (List ℕ)
unserved_policies = codes "always" ∷ codes "on-success" ∷ []

-- the tree with one more file, unless the file can't be in it
abbrev pub with_file : Tree → List ℕ × List ℕ → Tree
with_file tree (path, text) = result_unwrap_or (put_file tree path text) tree

-- the tree of these files
abbrev pub tree_with : List (List ℕ × List ℕ) → Tree
tree_with files = fold with_file finite.empty files

-- a unit that can be loaded
abbrev pub is_loaded : Loading → Bool
is_loaded (Found unit) = true
is_loaded other = false

-- the value of an ExecStart= of the unit holds a command: a oneshot service with it alone can be loaded
unfoldable pub holds_command : (unit value : List ℕ) → Bool
holds_command unit value =
    is_loaded
    (load (read_by current (tree_with ((codes "lib/" ++ unit, codes "[Service]\nType=oneshot\nExecStart=" ++ (value ++ codes "\n")) ∷ []))) unit)

-- the assignments of ExecStart= that count so far, with one more: an empty value resets the list
abbrev pub with_start : (unit : List ℕ) → List Spot → Spot → List Spot
with_start unit found s =
    if bytes_eq s.section (codes "Service") && bytes_eq s.key (codes "ExecStart")
    then (if is_empty s.value then [] else (if holds_command unit s.value then found ++ s ∷ [] else found))
    else found

-- the assignments of ExecStart= that count and hold a command
abbrev pub starts_in : (unit : List ℕ) → List Spot → List Spot
starts_in unit spots = fold (with_start unit) [] spots

-- ---- the report of a reason

-- a report on a file
pub record Told : Type 0 where
  pub path : List ℕ
  pub line : Option ℕ
  pub told : List ℕ

-- a report on an assignment
abbrev pub told_at : Spot → List ℕ → Told
told_at s told = record { path = s.path; line = Some s.line; told = told }

-- the text of the file at this path
abbrev pub text_at : List ℕ → List UnitFile → Option (List ℕ)
text_at path files = option_map (λ (f : UnitFile). f.text) (find (λ (f : UnitFile). bytes_eq f.path path) files)

-- the text of the assignment's file, with `X-` before its line
abbrev pub IsWithout : List UnitFile → Spot → List ℕ → Type 0
IsWithout files s text = (old : List ℕ) × (text_at s.path files ≡ Some old) × IsMarked s.line old text

-- the report is this one about the assignment, and the text is that of its file without it
abbrev pub TellsAt : List UnitFile → Spot → (told : List ℕ) → Told → (text : List ℕ) → Type 0
TellsAt files s told t text = (t ≡ told_at s told) × IsWithout files s text

-- a key that no unit may have: reported at its first assignment with a value
abbrev pub TellsSetting : List ℕ → List UnitFile → List Spot → Told → (text : List ℕ) → Type 0
TellsSetting key files spots t text =
    (why : List ℕ) × (s : Spot) × (key_why key ≡ Some why) × (first_with key spots ≡ Some s) × TellsAt files s (key_sentence key why) t text

-- a type that isn't served: reported at the last Type= that names one
abbrev pub TellsType : List UnitFile → List Spot → Told → (text : List ℕ) → Type 0
TellsType files spots t text = (s : Spot) × (last_with (codes "Type") unserved_types spots ≡ Some s) × TellsAt files s (type_sentence s.value) t text

-- a policy that isn't served: reported at the last Restart= that names one
abbrev pub TellsRestart : List UnitFile → List Spot → Told → (text : List ℕ) → Type 0
TellsRestart files spots t text =
    (s : Spot) × (last_with (codes "Restart") unserved_policies spots ≡ Some s) × TellsAt files s (restart_sentence s.value) t text

-- a command in lines of its own, with which any service can be started
abbrev pub command : List ℕ
command = codes "\n\n[Service]\nExecStart=/bin/true\n"

-- a lack of commands is reported for the unit's own file, and the text is that file with a command
abbrev pub TellsLack : List UnitFile → Told → (text : List ℕ) → Type 0
TellsLack files t text =
    (file : UnitFile) × (slice_get files 0 ≡ Some file) × (t ≡ record { path = file.path; line = None; told = no_command }) × (text ≡ file.text ++ command)

-- a further command: reported at the last ExecStart= that counts; if it is the only one, its file gets another
abbrev pub TellsFurther : List UnitFile → List Spot → Told → (text : List ℕ) → Type 0
TellsFurther files starts t text =
    (s : Spot) × (without : List ℕ) × (slice_get starts (length starts - 1) ≡ Some s) × TellsAt files s further_command t without
    × (text ≡ (if length starts == 1 then without ++ command else without))

-- a wrong number of commands: there is none, or a further one
abbrev pub TellsCount : List UnitFile → List Spot → Told → (text : List ℕ) → Type 0
TellsCount files starts t text = ((starts ≡ []) × TellsLack files t text) ⊎ TellsFurther files starts t text

-- the text of the reason is this one
abbrev pub Spells : Reason → List ℕ → Type 0
Spells (Setting key) text = text ≡ codes "setting " ++ key.now
Spells ServiceType text = text ≡ codes "type"
Spells Restart text = text ≡ codes "restart"
Spells ExecCount text = text ≡ codes "exec-count"

-- a reason why a unit can't be loaded is reported at its place, and the text is that of the reported file without it
abbrev pub TellsReason : (unit : List ℕ) → Reason → List UnitFile → List Spot → Told → (text : List ℕ) → Type 0
TellsReason unit (Setting key) files spots t text = TellsSetting key.now files spots t text
TellsReason unit ServiceType files spots t text = TellsType files spots t text
TellsReason unit Restart files spots t text = TellsRestart files spots t text
TellsReason unit ExecCount files spots t text = TellsCount files (starts_in unit spots) t text

-- the files of the unit in the tree
abbrev pub unit_files : Tree → List ℕ → List UnitFile
unit_files tree unit = files_at tree (resolution_of tree unit)

-- the assignments in them
abbrev pub unit_spots : Tree → List ℕ → List Spot
unit_spots tree unit = all_spots (suffix_of unit) (map source_of (unit_files tree unit))

-- the same for the text of a reason, with the unit's files in the tree
abbrev pub TellsIn : Tree → (unit reason : List ℕ) → Told → (text : List ℕ) → Type 0
TellsIn tree unit reason t text = (r : Reason) × Spells r reason × TellsReason unit r (unit_files tree unit) (unit_spots tree unit) t text

-- the reason why the unit can't be loaded is reported at its place, and is removed from the tree
abbrev pub TakesOut : (before after : Tree) → (unit : List ℕ) → Told → Type 0
TakesOut before after unit t =
    (named reason text : List ℕ) × (load (read_by current before) unit ≡ BadSetting named reason) × TellsIn before named reason t text
    × (put_file before t.path text ≡ Ok after)

-- these reasons are reported one after another, each by the tree that the one before has left
abbrev pub Tells : (before : Tree) → (unit : List ℕ) → List Told → (after : Tree) → Type 0
Tells before unit [] after = before ≡ after
Tells before unit (t ∷ ts) after = (mid : Tree) × TakesOut before mid unit t × Tells mid unit ts after

-- the place of a warning: the path, and the line
abbrev pub warning_place : Warning → List ℕ × Option ℕ
warning_place w = (w.path, Some w.line)
