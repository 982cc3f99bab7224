-- The reading of a unit file: its lines, joined where they go on, and of these the heads, assignments and warnings.
-- Follows systemd.syntax(7).
-- The reader of unit files, and the definition of units by their assignments, depend on this file.
use Rattle.std.specs.Prelude.{ℕ, ◌+◌, ◌-◌, ◌%◌, Bool, true, false, ◌||◌, List, [], ◌∷◌, ◌++◌, length, drop, reverse, take_while}
use Rattle.std.specs.Prelude.{Option, Some, None, slice_index, nat_lt, ◌==◌, if◌then◌else◌}
use Rattle.std.specs.Option.{option_map_or}
use Rattle.std.specs.List.{before_first, after_first, position_or_len}
use Rattle.std.specs.Str.Lines.{lines}
use Rattle.std.specs.Ffi.{without_last}
use Rattle.um_model.specs.Text.{trim_start, trim, is_blank, first_passes}
use Rattle.um_model.specs.declared.warnings.WarningKind.{WarningKind}
use Rattle.um_model.specs.declared.warnings.WarningKind.TheVariants.{BeforeAnySection, NoEqualsSign, UnknownSection, UnknownKey}
use Rattle.um_model.specs.declared.warnings.WarningKind.TheVariants.{UnreadableValue, UnreadableSpecifier}

-- the numbers of the warnings
abbrev pub warning_number : WarningKind → ℕ
warning_number BeforeAnySection = 1
warning_number NoEqualsSign = 2
warning_number UnknownSection = 3
warning_number UnknownKey = 4
warning_number UnreadableValue = 5
warning_number UnreadableSpecifier = 6

-- Lines

-- a line with the number, from 1, of its first physical line; it is whole if it is one physical line as it stands
pub record Line : Type 0 where
  pub number : ℕ
  pub text : List ℕ
  pub whole : Bool

-- the first character past whitespace is # or ;
abbrev pub is_comment : List ℕ → Bool
is_comment text = first_passes (λ b. b == 35 || b == 59) (trim_start text)

-- the number of backslashes at the end is odd
abbrev pub continues : List ℕ → Bool
continues text = length (take_while (λ b. b == 92) (reverse text)) % 2 == 1

-- the lines that count, from physical line n on: comment lines are taken out, the others keep their numbers, and a blank one
-- counts as an empty one
abbrev pub physical : ℕ → List (List ℕ) → List Line
physical n [] = []
physical n (l ∷ ls) =
    if is_comment l then physical (n + 1) ls else record { number = n; text = if is_blank l then [] else l; whole = true } ∷ physical (n + 1) ls

-- the text of the first line, nothing if there is none
abbrev pub first_text : List Line → List ℕ
first_text [] = []
first_text (l ∷ ls) = l.text

-- the joined lines: one that goes on has a space for its last backslash, and then the joined line that follows; at the end of
-- the text nothing follows
abbrev pub joined : List Line → List Line
joined [] = []
joined (l ∷ ls) =
    if continues l.text then record { number = l.number; text = without_last l.text ++ 32 ∷ first_text (joined ls); whole = false } ∷ drop 1 (joined ls)
    else l ∷ joined ls

-- the joined lines of a text: its physical lines end in a line feed, and one carriage return before that is dropped
abbrev pub joined_lines : List ℕ → List Line
joined_lines text = joined (physical 1 (lines text))

-- The statement of a line

-- a line is blank, a section's head with its name, a key and a value, or has no `=`
pub data Statement : Type 0 where
  Blank : Statement
  Head : List ℕ → Statement
  Pair : List ℕ → List ℕ → Statement
  Stray : Statement

-- the text between `[` at the front and `]` at the end
abbrev pub in_brackets : List ℕ → Option (List ℕ)
in_brackets [] = None
in_brackets (b ∷ bs) = if b == 91 then (if slice_index bs (length bs - 1) == 93 then Some (without_last bs) else None) else None

-- what a joined line says: one with an `=` is cut at the first one, and whitespace around key and value is dropped; proofs/SyntaxLaws
-- states the same as a relation
abbrev pub statement_of : List ℕ → Statement
statement_of text =
    let is_equals = λ (b : ℕ). b == 61 in
    option_map_or Head (in_brackets (trim text)) (if is_blank text then Blank else (if nat_lt (position_or_len is_equals text) (length text)
    then Pair (trim (before_first is_equals text)) (trim (after_first is_equals text)) else Stray))

-- The reading of a text

-- a section's head with its name, a key and a value, or a warning, each with the number of its line; the value stands in the
-- text as it is, if the line is whole
pub data Item : Type 0 where
  Section : List ℕ → ℕ → Item
  Assignment : List ℕ → List ℕ → ℕ → Bool → Item
  Warned : WarningKind → ℕ → Item

-- the number of its line
abbrev pub line_number : Item → ℕ
line_number (Section name line) = line
line_number (Assignment key value line whole) = line
line_number (Warned kind line) = line

-- an item with the name of the section that it stands in, if there is one
pub record Placed : Type 0 where
  pub section : Option (List ℕ)
  pub item : Item

-- the items of a line by its statement, in this section or before any; a head stands in its own section
abbrev pub placed_of : Statement → Option (List ℕ) → Line → List Placed
placed_of Blank section l = []
placed_of (Head name) section l = record { section = Some name; item = Section name l.number } ∷ []
placed_of (Pair key value) None l = record { section = None; item = Warned BeforeAnySection l.number } ∷ []
placed_of (Pair key value) section l = record { section = section; item = Assignment key value l.number l.whole } ∷ []
placed_of Stray section l = record { section = section; item = Warned NoEqualsSign l.number } ∷ []

-- the section after a line that says this
abbrev pub section_after : Statement → Option (List ℕ) → Option (List ℕ)
section_after (Head name) section = Some name
section_after other section = section

-- the items of lines, in this section or before any
abbrev pub placed_in : Option (List ℕ) → List Line → List Placed
placed_in section [] = []
placed_in section (l ∷ ls) = placed_of (statement_of l.text) section l ++ placed_in (section_after (statement_of l.text) section) ls

-- the reading of a text
abbrev pub reading_of : List ℕ → List Placed
reading_of text = placed_in None (joined_lines text)
