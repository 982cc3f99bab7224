-- What a unit file says, as relations, line by line, that have one reading at most.
-- Follows systemd.syntax(7).
-- The laws of um_syntax depend on this file.
use Rattle.std.specs.Prelude.{◌≡◌, ℕ, ◌+◌, List, [], ◌∷◌, ◌++◌, Bool, not, eqb, true, false, ◌||◌, None, Option, Some}
use Rattle.um_model.specs.Text.{trim, is_blank}
use Rattle.std.specs.List.{list_all}
use Rattle.um_model.specs.Syntax.{Statement, Blank, Head, Pair, Stray, Line, is_comment, continues, Item, Placed, Section, Assignment, Warned}
use Rattle.um_model.specs.FileForms.{physical_line, joined_line, items_of, is_head, in_sections}
use Rattle.std.specs.Str.Lines.{lines}
use Rattle.um_model.specs.declared.warnings.WarningKind.TheVariants.{BeforeAnySection}

-- without the whitespace at its ends, the text is the name in brackets
abbrev pub IsHeadOf : List ℕ → List ℕ → Type 0
IsHeadOf text name = trim text ≡ 91 ∷ name ++ 93 ∷ []

-- no byte is an `=`
abbrev pub has_no_equals : List ℕ → Bool
has_no_equals text = list_all (λ b. not (eqb b 61)) text

-- what a joined line says: a pair is cut at the first `=`, and whitespace around key and value is dropped
pub data Says : List ℕ → Statement → Type 0 where
  says_nothing : (text : List ℕ) → is_blank text ≡ true → Says text Blank
  says_head : (text name : List ℕ) → IsHeadOf text name → Says text (Head name)
  says_pair : (text before after : List ℕ) → ((name : List ℕ) → ¬ IsHeadOf text name) → text ≡ before ++ 61 ∷ after → has_no_equals before ≡ true
      → Says text (Pair (trim before) (trim after))
  says_no_pair : (text : List ℕ) → ((name : List ℕ) → ¬ IsHeadOf text name) → is_blank text ≡ false → has_no_equals text ≡ true → Says text Stray

-- the lines that count, from physical line n on: comment lines are taken out, the others keep their numbers, and a blank one
-- counts as an empty one
pub data AreKept : ℕ → List (List ℕ) → List Line → Type 0 where
  kept_none : (n : ℕ) → AreKept n [] []
  drops_comment : (n : ℕ) (l : List ℕ) (ls : List (List ℕ)) (kept : List Line) → is_comment l ≡ true → AreKept (n + 1) ls kept
      → AreKept n (l ∷ ls) kept
  keeps_blank : (n : ℕ) (l : List ℕ) (ls : List (List ℕ)) (kept : List Line) → is_blank l ≡ true → AreKept (n + 1) ls kept
      → AreKept n (l ∷ ls) (physical_line n [] ∷ kept)
  keeps_text : (n : ℕ) (l : List ℕ) (ls : List (List ℕ)) (kept : List Line) → is_comment l ≡ false → is_blank l ≡ false
      → AreKept (n + 1) ls kept → AreKept n (l ∷ ls) (physical_line n l ∷ kept)

-- the joined lines: one that goes on has a space for its last backslash, and then the joined line that follows; at the end of
-- the text nothing follows
pub data AreJoined : List Line → List Line → Type 0 where
  joined_none : AreJoined [] []
  stands_alone : (l : Line) (ls js : List Line) → continues l.text ≡ false → AreJoined ls js → AreJoined (l ∷ ls) (l ∷ js)
  goes_on : (l j : Line) (ls js : List Line) → continues l.text ≡ true → AreJoined ls (j ∷ js)
      → AreJoined (l ∷ ls) (joined_line l j.text ∷ js)
  ends : (l : Line) → continues l.text ≡ true → AreJoined (l ∷ []) (joined_line l [] ∷ [])

-- what lines give, after a section's head or before any
pub data Give : Bool → List Line → List Item → Type 0 where
  gives_none : (begun : Bool) → Give begun [] []
  gives_line : (begun : Bool) (l : Line) (ls : List Line) (statement : Statement) (items : List Item) → Says l.text statement
      → Give (begun || is_head statement) ls items → Give begun (l ∷ ls) (items_of statement begun l.number l.whole ++ items)

-- what a text says: its physical lines end in a line feed, and one carriage return before that is dropped
pub record IsReading (text : List ℕ) (reading : List Placed) : Type 0 where
  pub kept : List Line
  pub joined_ones : List Line
  pub items : List Item
  pub keeps : AreKept 1 (lines text) kept
  pub joins : AreJoined kept joined_ones
  pub gives : Give false joined_ones items
  pub places : reading ≡ in_sections None items

-- a head and an assignment stand in a section, and the warning of an assignment before any section stands in none
abbrev pub stands_well : Option (List ℕ) → Item → Bool
stands_well None (Section name line) = false
stands_well (Some section) (Section name line) = true
stands_well None (Assignment key value line whole) = false
stands_well (Some section) (Assignment key value line whole) = true
stands_well None (Warned kind line) = true
stands_well (Some section) (Warned BeforeAnySection line) = false
stands_well (Some section) (Warned kind line) = true
