-- The meaning of a setting's value under a unit's name: its words with their specifiers expanded, or why it can't be read.
-- Follows systemd.syntax(7), "Quoting", systemd.unit(5), "Specifiers", and systemd.service(5), "Command lines".
-- Settings and warnings depend on this file.
use Rattle.std.specs.Prelude.{ℕ, Bool, ◌&&◌, ◌==◌, if◌then◌else◌, nat_lt, List, [], ◌∷◌, length, map, Option, Some, None, Result, Ok, Err}
use Rattle.std.specs.Option.{ok_or, option_map_or}
use Rattle.std.specs.List.{list_all, before_first, after_first, position_or_len}
use Rattle.um_model.specs.Results.{◌and_then◌, result_map}
use Rattle.um_model.specs.Names.{is_instance_byte}
use Rattle.um_model.specs.Specifiers.{expanded_of}
use Rattle.um_model.specs.Commands.{Command, commands_read, is_executable_word}
use Rattle.um_model.specs.Words.{words_of}
use Rattle.um_model.specs.Substitution.{Variable, is_variable_name}
use Rattle.um_model.specs.declared.warnings.WarningKind.{WarningKind}
use Rattle.um_model.specs.declared.warnings.WarningKind.TheVariants.{UnreadableValue, UnreadableSpecifier}
use Rattle.um_model.specs.declared.words.WordRules.TheVariants.{Escaped, Names}

-- Each reading is the meaning of a value, or the warning that it gives.

-- the values of all readings, or the first warning
abbrev pub all_read : {A : Type 0} → List (Result A WarningKind) → Result (List A) WarningKind
all_read [] = Ok []
all_read (first ∷ others) = first and_then λ a. result_map (λ rest. a ∷ rest) (all_read others)

-- a text that passes the test
abbrev pub read_if : (List ℕ → Bool) → List ℕ → Result (List ℕ) WarningKind
read_if passes text = if passes text then Ok text else Err UnreadableValue

-- a text with its specifiers expanded
abbrev pub text_reading : List ℕ → List ℕ → Result (List ℕ) WarningKind
text_reading unit text = ok_or (expanded_of unit text) UnreadableSpecifier

-- ---- commands and environments: one word that can't be read spoils the value

-- the words of a command; the first one, with its signs already cut off, is the program to run
abbrev pub words_reading : List ℕ → List (List ℕ) → Result (List (List ℕ)) WarningKind
words_reading unit [] = Ok []
words_reading unit (first ∷ others) = all_read ((text_reading unit first and_then read_if is_executable_word) ∷ map (text_reading unit) others)

-- the commands of a value
unfoldable pub commands_reading : List ℕ → List ℕ → Result (List Command) WarningKind
commands_reading unit value =
    ok_or (commands_read value) UnreadableValue and_then λ commands.
    all_read (map (λ (command : Command). result_map (λ words. record command { words = words }) (words_reading unit command.words)) commands)

-- the variable that a word `NAME=value` sets
abbrev pub variable_in : List ℕ → Option Variable
variable_in word =
    let is_equals = λ (b : ℕ). b == 61 in
    if nat_lt (position_or_len is_equals word) (length word) && is_variable_name (before_first is_equals word)
    then Some (record { name = before_first is_equals word; value = after_first is_equals word }) else None

-- the variables of a value
unfoldable pub environment_reading : List ℕ → List ℕ → Result (List Variable) WarningKind
environment_reading unit value =
    ok_or (words_of Escaped value) UnreadableValue and_then λ words.
    all_read (map (λ word. text_reading unit word and_then λ text. ok_or (variable_in text) UnreadableValue) words)

-- ---- lists of unit names: a word that can't be read is alone without effect

-- each word of a value as a name that fits; a value that doesn't split into words counts as one word that can't be read
unfoldable pub names_reading : (List ℕ → Bool) → List ℕ → List ℕ → List (Result (List ℕ) WarningKind)
names_reading fits unit value =
    option_map_or (map (λ (word : List ℕ). text_reading unit word and_then read_if fits)) (words_of Names value) (Err UnreadableValue ∷ [])

-- ---- values that are one thing

-- an instance has its bytes alone
abbrev pub instance_in : List ℕ → Option (List ℕ)
instance_in value = if list_all is_instance_byte value then Some value else None
