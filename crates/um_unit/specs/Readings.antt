-- Readings of the code as the readings of the definitions, and which names a list takes.
use Rattle.std.specs.Prelude.{ℕ, Bool, List, Option, Ok, Err}
use Rattle.std.specs.Option.{ok_or}
use Rattle.std.specs.Result.{result_err}
use Rattle.um_model.specs.Names.{is_unit_name}
use Rattle.um_model.specs.Readings.{all_read, text_reading, variable_in, words_reading}
use Rattle.um_model.specs.Commands.{Command}
use Rattle.um_model.specs.Results.{◌and_then◌, result_map}
use Rattle.um_model.specs.Substitution.{Variable}
use Rattle.um_model.specs.Units.{is_alias_for}
use Rattle.um_model.specs.declared.warnings.WarningKind.{WarningKind}
use Rattle.um_model.specs.declared.warnings.WarningKind.TheVariants.{UnreadableValue}
use Rattle.um_unit.specs.declared.readings.NameUse.{NameUse}
use Rattle.um_unit.specs.declared.readings.NameUse.TheVariants.{Units, Aliases}
use Rattle.um_model.specs.FileForms.{Meaning}

-- a reading, with its result in another form
abbrev pub read_as : {A B : Type 0} → (A → B) → Meaning A → Meaning B
read_as view (Ok a) = Ok (view a)
read_as view (Err warning) = Err warning

-- the names that a list takes
abbrev pub fits_use : NameUse → List ℕ → List ℕ → Bool
fits_use Units unit text = is_unit_name text
fits_use Aliases unit text = is_alias_for unit text

-- the result, or the warning of a value that can't be read
abbrev pub value_reading : {A : Type 0} → Option A → Meaning A
value_reading read = ok_or read UnreadableValue

-- the variable that a word sets, its specifiers expanded
abbrev pub variable_reading : List ℕ → List ℕ → Meaning Variable
variable_reading unit word = text_reading unit word and_then λ text. ok_or (variable_in text) UnreadableValue

-- the first warning of several readings
abbrev pub first_warning : {A : Type 0} → List (Meaning A) → Option WarningKind
first_warning readings = result_err (all_read readings)

-- a command with the specifiers of its words expanded
abbrev pub command_reading : List ℕ → Command → Meaning Command
command_reading unit command = result_map (λ words. record command { words = words }) (words_reading unit command.words)
