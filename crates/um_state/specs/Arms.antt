-- An event by its tag, as the code reads it: the fields after the moment.
-- No manual page has it: it is the order in which the code reads an input.
-- The code that reads inputs stands on this file.
use Rattle.std.specs.Prelude.{ℕ, ◌-◌, nat_lt, List, [], ◌∷◌, if◌then◌else◌}
use Rattle.um_model.specs.Bytes.{Decoder, arm_in, as_at, none_at, number_at, option_at, pair_at, text_at, table_at}
use Rattle.um_model.specs.InputSpellings.{Timed, nothing_at, texts_at, modes}
use Rattle.um_model.specs.Machine.{Command, PutFile, PutLink, Remove, DaemonReload, ForUnit, Cancel, ResetFailed, Install, Happening, ProcessEnded, ProcessExecuted, Tick, Booted, Event}
use Rattle.um_model.specs.Machine.{Commanded, Happened}
use Rattle.um_model.specs.Spellings.{end_at, moment_at, unit_name_at}
use Rattle.um_model.specs.StateSpellings.{boot_at}
use Rattle.um_model.specs.declared.commands.UnitVerb.{UnitVerb}
use Rattle.um_model.specs.declared.commands.UnitVerb.TheVariants as verb
use Rattle.um_model.specs.declared.install.InstallVerb.{InstallVerb}
use Rattle.um_model.specs.declared.install.InstallVerb.TheVariants as install

-- a command for a unit: its name, and the mode
abbrev pub for_unit : UnitVerb → Decoder Command
for_unit verb = as_at (λ f. ForUnit verb f.0 f.1) (pair_at unit_name_at (table_at modes))

-- enabling or its kin: the name of the unit
abbrev pub installs : InstallVerb → Decoder Command
installs verb = as_at (λ unit. Install verb unit) unit_name_at

-- the fields of the commands, by their tags from 1; none has 0
abbrev pub command_arms : List (Decoder Command)
command_arms =
    none_at
    ∷ as_at (λ f. PutFile f.0 f.1) texts_at
    ∷ as_at (λ f. PutLink f.0 f.1) texts_at
    ∷ as_at Remove text_at
    ∷ as_at (λ nothing. DaemonReload) nothing_at
    ∷ for_unit verb.Start
    ∷ for_unit verb.Stop
    ∷ for_unit verb.Restart
    ∷ for_unit verb.TryRestart
    ∷ as_at Cancel unit_name_at
    ∷ as_at ResetFailed (option_at unit_name_at)
    ∷ installs install.Enable
    ∷ installs install.Disable
    ∷ installs install.Mask
    ∷ installs install.Unmask
    ∷ []

-- the fields of happenings, by their tags from 15
abbrev pub happening_arms : List (Decoder Happening)
happening_arms =
    as_at (λ f. ProcessEnded f.0 f.1) (pair_at (number_at 8) end_at)
    ∷ as_at ProcessExecuted (number_at 8)
    ∷ as_at (λ nothing. Tick) nothing_at
    ∷ as_at Booted boot_at
    ∷ []

-- the fields of an event, by its tag
abbrev pub event_at : ℕ → Decoder Event
event_at tag = if nat_lt tag 15 then as_at Commanded (arm_in command_arms tag) else as_at Happened (arm_in happening_arms (tag - 15))

-- a moment, followed by the fields of the event
abbrev pub timed_at : ℕ → Decoder Timed
timed_at tag = pair_at moment_at (event_at tag)
