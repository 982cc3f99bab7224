-- Parts of the definitions of files and their values, by names that laws and code use.
-- Follows the manual pages of the definitions that they are parts of.
-- The contracts of um_text to um_unit depend on this file.
use Rattle.std.specs.Prelude.{ℕ, ◌*◌, ◌+◌, ◌-◌, ◌^◌, ◌&&◌, ◌||◌, Bool, true, false, not, List, [], ◌∷◌, ◌++◌, length, drop, reverse, take_while, fold, filter, filter_map, slice_index, map, bytes_eq, nat_lt, Option, None, Some, option_map, Result, if◌then◌else◌, ◌==◌}
use Rattle.std.specs.Char.{digit_value}
use Rattle.std.specs.Ffi.{without_last}
use Rattle.std.specs.List.{flat_map, slice_split, before_first, after_first, position_or_len}
use Rattle.std.specs.Map.{lookup}
use Rattle.std.specs.Result.{result_ok}
use Rattle.um_model.specs.Ascii.{is_space, is_digit, is_letter}
use Rattle.um_model.specs.Commands.{Command, is_separator, value_in_command, command_of}
use Rattle.um_model.specs.Readings.{names_reading, read_if, text_reading}
use Rattle.um_model.specs.Results.{◌and_then◌}
use Rattle.um_model.specs.Pieces.{Front, Gives, Unreadable}
use Rattle.um_model.specs.Syntax.{Line, Statement, Blank, Head, Pair, Stray, Item, Section, Assignment, Warned, Placed, statement_of}
use Rattle.um_model.specs.Text.{trim_start, trim}
use Rattle.um_model.specs.Units.{Source, Warning, LoadedUnit, nothing_installed, warnings_in}
use Rattle.um_model.specs.Values.{time_units}
use Rattle.um_model.specs.Words.{Word, meanings}
use Rattle.um_model.specs.declared.profile.Profile.{Profile}
use Rattle.um_model.specs.declared.settings.RestartPolicy.{RestartPolicy}
use Rattle.um_model.specs.declared.settings.RestartPolicy.TheVariants.{No, Always, OnSuccess, OnFailure, OnAbnormal, OnAbort, OnWatchdog}
use Rattle.um_model.specs.declared.warnings.WarningKind.{WarningKind}
use Rattle.um_model.specs.declared.warnings.WarningKind.TheVariants.{BeforeAnySection, NoEqualsSign}

-- without the whitespace at the end
abbrev pub trim_end : List ℕ → List ℕ
trim_end text = reverse (trim_start (reverse text))

-- these in front of the values that are found
abbrev pub with_front : {A : Type 0} → List A → Option (List A × List ℕ) → Option (List A × List ℕ)
with_front found later = option_map (λ r. (found ++ r.0, r.1)) later

-- the meaning of a backslash and this byte
abbrev pub meaning_of : ℕ → Option ℕ
meaning_of b = lookup (λ c. b == c) meanings

-- the number that the first two digits write
abbrev pub hex_value : List ℕ → ℕ
hex_value bs = 16 * digit_value (slice_index bs 0) + digit_value (slice_index bs 1)

-- the texts that words stand for
abbrev pub word_values : List Word → List (List ℕ)
word_values words = map (λ w. w.value) words

-- the commands of words, parted at each separator
abbrev pub commands_among : List Word → List Command
commands_among words = flat_map (λ part. command_of (map value_in_command part)) (slice_split is_separator words)

-- a place in a list of commands is a number of 32 bits
abbrev pub place_limit : ℕ
place_limit = 2 ^ 32

-- the meaning of a value, or the warning that it gives
abbrev pub Meaning : Type 0 → Type 0
Meaning A = Result A WarningKind

-- the names that a value gives
abbrev pub names_said : (List ℕ → Bool) → List ℕ → List ℕ → List (List ℕ)
names_said fits unit value = filter_map result_ok (names_reading fits unit value)

-- everything that these values name
abbrev pub names_of : (List ℕ → Bool) → List ℕ → List (List ℕ) → List (List ℕ)
names_of fits unit values = flat_map (names_said fits unit) values

-- the greatest number that a setting takes
abbrev pub number_limit : ℕ
number_limit = 4294967295

-- microseconds in a unit of time
abbrev pub unit_size : List ℕ → Option ℕ
unit_size unit = lookup (bytes_eq unit) time_units

-- the digits at the front of a text, as far as they go
abbrev pub digits_of : List ℕ → List ℕ
digits_of text = take_while is_digit text

-- the rest of a text after its digits and the whitespace that follows them
abbrev pub past_digits : List ℕ → List ℕ
past_digits text = trim_start (drop (length (digits_of text)) text)

-- the letters at the front of that rest, as far as they go
abbrev pub unit_of : List ℕ → List ℕ
unit_of text = take_while is_letter (past_digits text)

-- the rest after digits and unit
abbrev pub past_part : List ℕ → List ℕ
past_part text = drop (length (unit_of text)) (past_digits text)

-- the last one, or the default
abbrev pub last_or : {A : Type 0} → A → List A → A
last_or default values = fold (λ earlier value. value) default values

-- a physical line, by its number
abbrev pub physical_line : ℕ → List ℕ → Line
physical_line n text = record { number = n; text = text; whole = true }

-- a line that goes on, with a space for its last backslash, and the text of the line that follows
abbrev pub joined_line : Line → List ℕ → Line
joined_line l after = record { number = l.number; text = without_last l.text ++ 32 ∷ after; whole = false }

-- the text before the `]` at the end
abbrev pub before_bracket : List ℕ → Option (List ℕ)
before_bracket text = if slice_index text (length text - 1) == 93 then Some (without_last text) else None

-- some byte is an `=`
abbrev pub has_equals : List ℕ → Bool
has_equals text = nat_lt (position_or_len (λ b. b == 61) text) (length text)

-- key and value of a text with an `=`: it is cut at the first one, and whitespace around both is dropped
abbrev pub pair_of : List ℕ → Statement
pair_of text = Pair (trim (before_first (λ b. b == 61) text)) (trim (after_first (λ b. b == 61) text))

-- a byte from 01 to 7f that two digits write
abbrev pub hex_front : ℕ → Front ℕ
hex_front value = if nat_lt 0 value && nat_lt value 128 then Gives (value ∷ []) 4 else Unreadable

-- the pieces between spaces and tabs, but for empty ones
abbrev pub words_in : List ℕ → List (List ℕ)
words_in text = filter (λ word. not (length word == 0)) (slice_split is_space text)

-- all policies
abbrev pub policies : List RestartPolicy
policies = No ∷ Always ∷ OnSuccess ∷ OnFailure ∷ OnAbnormal ∷ OnAbort ∷ OnWatchdog ∷ []

-- Items without their sections, and then with them, as code reads them; SyntaxLaws proves that these are the items of the reading

-- the items of a line with this number, by its statement, after a section's head or before any
abbrev pub items_of : Statement → Bool → ℕ → Bool → List Item
items_of Blank begun number whole = []
items_of (Head name) begun number whole = Section name number ∷ []
items_of (Pair key value) true number whole = Assignment key value number whole ∷ []
items_of (Pair key value) false number whole = Warned BeforeAnySection number ∷ []
items_of Stray begun number whole = Warned NoEqualsSign number ∷ []

-- the statement is a section's head
abbrev pub is_head : Statement → Bool
is_head (Head name) = true
is_head other = false

-- the items of lines, after a section's head or before any
abbrev pub items_in : Bool → List Line → List Item
items_in begun [] = []
items_in begun (l ∷ ls) = items_of (statement_of l.text) begun l.number l.whole ++ items_in (begun || is_head (statement_of l.text)) ls

-- the section after an item
abbrev pub section_past : Option (List ℕ) → Item → Option (List ℕ)
section_past section (Section name line) = Some name
section_past section other = section

-- each item with its section, which is that of the last head before it; a head stands in its own
abbrev pub in_sections : Option (List ℕ) → List Item → List Placed
in_sections section [] = []
in_sections section (i ∷ is) = record { section = section_past section i; item = i } ∷ in_sections (section_past section i) is

-- a word as a unit's name that fits
abbrev pub unit_reading : (List ℕ → Bool) → List ℕ → List ℕ → Meaning (List ℕ)
unit_reading fits unit word = text_reading unit word and_then read_if fits

-- the warnings of a unit, by file in the order in which they are read
abbrev pub warnings_of : Profile → List ℕ → List Source → List Warning
warnings_of profile unit sources = flat_map (warnings_in profile unit) sources

-- a unit that nothing enables
abbrev pub without_install : LoadedUnit → LoadedUnit
without_install u = record u { settings = record u.settings { install = nothing_installed } }
