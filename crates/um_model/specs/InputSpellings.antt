-- Canonical bytes of inputs: commands and happenings, each with its profile and its moment.
-- No manual page has this: it is the project's own format (docs/FORMATS.md, "Canonical bytes").
-- The code that reads and writes inputs, and the log of the store depend on this file.
use Rattle.std.specs.Prelude.{ℕ, ◌<◌, ◌^◌, ⊤, List, [], ◌∷◌, ◌++◌, IfSome}
use Rattle.byteorder.specs.Endian.{big_bytes}
use Rattle.um_model.specs.Bytes.{Spelling, Decoder, number_at, pair_at, as_at, choice_at, arm_in, just_at, none_at, table_at, tagged}
use Rattle.um_model.specs.Bytes.{FitText, text_spelling, text_at, option_spelling, option_at}
use Rattle.um_model.specs.Machine.{Command, PutFile, PutLink, Remove, DaemonReload, ForUnit, Cancel, ResetFailed, Install, Happening, ProcessEnded, ProcessExecuted, Tick, Booted, Event}
use Rattle.um_model.specs.Machine.{Commanded, Happened, Input}
use Rattle.um_model.specs.StateSpellings.{boot_at, FitBoot}
use Rattle.um_model.specs.Spellings.{profile_tag, profile_at, moment_at, FitMoment, unit_name_at, FitUnitName, end_spelling, end_at, FitEnd}
use Rattle.um_model.specs.declared.commands.JobMode.{JobMode}
use Rattle.um_model.specs.declared.commands.JobMode.TheVariants as mode
use Rattle.um_model.specs.declared.commands.UnitVerb.{UnitVerb}
use Rattle.um_model.specs.declared.commands.UnitVerb.TheVariants as verb
use Rattle.um_model.specs.declared.install.InstallVerb.{InstallVerb}
use Rattle.um_model.specs.declared.install.InstallVerb.TheVariants as install
use Rattle.um_model.specs.declared.profile.Profile.{Profile}

-- ---- the modes for jobs in the way

-- the tag of a mode
abbrev pub mode_tag : JobMode → ℕ
mode_tag mode.Replace = 0
mode_tag mode.Fail = 1

-- the modes by their tags
abbrev pub modes : List JobMode
modes = mode.Replace ∷ mode.Fail ∷ []

-- ---- the tags of events

-- the tag of a command for a unit
abbrev pub verb_tag : UnitVerb → ℕ
verb_tag verb.Start = 5
verb_tag verb.Stop = 6
verb_tag verb.Restart = 7
verb_tag verb.TryRestart = 8

-- the tag of enabling or its kin
abbrev pub install_tag : InstallVerb → ℕ
install_tag install.Enable = 11
install_tag install.Disable = 12
install_tag install.Mask = 13
install_tag install.Unmask = 14

-- the tag of a command
abbrev pub command_tag : Command → ℕ
command_tag (PutFile path text) = 1
command_tag (PutLink path target) = 2
command_tag (Remove path) = 3
command_tag DaemonReload = 4
command_tag (ForUnit verb unit mode) = verb_tag verb
command_tag (Cancel unit) = 9
command_tag (ResetFailed unit) = 10
command_tag (Install verb unit) = install_tag verb

-- the tag of a happening
abbrev pub happening_tag : Happening → ℕ
happening_tag (ProcessEnded number end) = 15
happening_tag (ProcessExecuted number) = 16
happening_tag Tick = 17
happening_tag (Booted boot) = 18

-- the tag of an event
abbrev pub event_tag : Event → ℕ
event_tag (Commanded command) = command_tag command
event_tag (Happened happening) = happening_tag happening

-- ---- the fields after the moment

-- the fields of a command: texts, names, and the mode
abbrev pub command_fields : Spelling Command
command_fields (PutFile path text) = text_spelling path ++ text_spelling text
command_fields (PutLink path target) = text_spelling path ++ text_spelling target
command_fields (Remove path) = text_spelling path
command_fields DaemonReload = []
command_fields (ForUnit verb unit mode) = text_spelling unit ++ tagged mode_tag mode
command_fields (Cancel unit) = text_spelling unit
command_fields (ResetFailed unit) = option_spelling text_spelling unit
command_fields (Install verb unit) = text_spelling unit

-- the fields of a happening: a number, an end, and a boot's id
abbrev pub happening_fields : Spelling Happening
happening_fields (ProcessEnded number end) = big_bytes 8 number ++ end_spelling end
happening_fields (ProcessExecuted number) = big_bytes 8 number
happening_fields Tick = []
happening_fields (Booted boot) = text_spelling boot

-- the fields of an event
abbrev pub event_fields : Spelling Event
event_fields (Commanded command) = command_fields command
event_fields (Happened happening) = happening_fields happening

-- ---- an input

-- the most bytes of an input that isn't refused: the longest puts a file of 65,536 bytes at a path of 524
abbrev pub input_limit : ℕ
input_limit = 66078

-- its profile as the first byte, the tag, the moment, and the fields
abbrev pub input_spelling : Spelling Input
input_spelling i = tagged profile_tag i.profile ++ (event_tag i.event ∷ (big_bytes 8 i.moment ++ event_fields i.event))

-- a moment, and the event at it
abbrev pub Timed : Type 0
Timed = ℕ × Event

-- a moment, and after it the fields of an event
abbrev pub comes_at : {A : Type 0} → (A → Event) → Decoder A → Decoder Timed
comes_at to fields = as_at (λ f. (f.0, to f.1)) (pair_at moment_at fields)

-- two texts, the second of which is any
abbrev pub texts_at : Decoder (List ℕ × List ℕ)
texts_at = pair_at text_at text_at

-- a command for a unit: its name, and the mode
abbrev pub for_unit_at : UnitVerb → Decoder Timed
for_unit_at verb = comes_at (λ f. Commanded (ForUnit verb f.0 f.1)) (pair_at unit_name_at (table_at modes))

-- enabling or its kin: the name of the unit
abbrev pub install_at : InstallVerb → Decoder Timed
install_at verb = comes_at (λ unit. Commanded (Install verb unit)) unit_name_at

-- no fields
abbrev pub nothing_at : Decoder ⊤
nothing_at = just_at tt

-- the events by their tags; none has 0
abbrev pub input_arms : List (Decoder Timed)
input_arms =
    none_at
    ∷ comes_at (λ f. Commanded (PutFile f.0 f.1)) texts_at
    ∷ comes_at (λ f. Commanded (PutLink f.0 f.1)) texts_at
    ∷ comes_at (λ path. Commanded (Remove path)) text_at
    ∷ comes_at (λ nothing. Commanded DaemonReload) nothing_at
    ∷ for_unit_at verb.Start
    ∷ for_unit_at verb.Stop
    ∷ for_unit_at verb.Restart
    ∷ for_unit_at verb.TryRestart
    ∷ comes_at (λ unit. Commanded (Cancel unit)) unit_name_at
    ∷ comes_at (λ unit. Commanded (ResetFailed unit)) (option_at unit_name_at)
    ∷ install_at install.Enable
    ∷ install_at install.Disable
    ∷ install_at install.Mask
    ∷ install_at install.Unmask
    ∷ comes_at (λ f. Happened (ProcessEnded f.0 f.1)) (pair_at (number_at 8) end_at)
    ∷ comes_at (λ number. Happened (ProcessExecuted number)) (number_at 8)
    ∷ comes_at (λ nothing. Happened Tick) nothing_at
    ∷ comes_at (λ boot. Happened (Booted boot)) boot_at
    ∷ []

-- the input of its parts
abbrev pub input_with : Profile × Timed → Input
input_with (profile, (moment, event)) = record { profile = profile; moment = moment; event = event }

-- a profile, a tag, and the rest of the input by that tag
abbrev pub input_at : Decoder Input
input_at = as_at input_with (pair_at profile_at (choice_at (arm_in input_arms)))

-- a command that has bytes: its texts are any, and its unit has a name
abbrev pub FitCommand : Command → Type 0
FitCommand (PutFile path text) = FitText path × FitText text
FitCommand (PutLink path target) = FitText path × FitText target
FitCommand (Remove path) = FitText path
FitCommand DaemonReload = ⊤
FitCommand (ForUnit verb unit mode) = FitUnitName unit
FitCommand (Cancel unit) = FitUnitName unit
FitCommand (ResetFailed unit) = IfSome unit FitUnitName
FitCommand (Install verb unit) = FitUnitName unit

-- a happening that has bytes: the number is any that eight bytes hold
abbrev pub FitHappening : Happening → Type 0
FitHappening (ProcessEnded number end) = (number < 2 ^ 64) × FitEnd end
FitHappening (ProcessExecuted number) = number < 2 ^ 64
FitHappening Tick = ⊤
FitHappening (Booted boot) = FitBoot boot

-- an event that has bytes
abbrev pub FitEvent : Event → Type 0
FitEvent (Commanded command) = FitCommand command
FitEvent (Happened happening) = FitHappening happening

-- an input that has bytes: its moment has some, and so has its event
pub record FitInput (i : Input) : Type 0 where
  pub moment : FitMoment i.moment
  pub event : FitEvent i.event
