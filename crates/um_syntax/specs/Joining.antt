-- Lines that are being joined, as those of the definitions.
use Rattle.std.specs.Prelude.{◌≡◌, ℕ, ◌+◌, ◌<◌, ◌^◌, true, false, List, ◌∷◌, ◌++◌, length, drop, map, Option, Some, None}
use Rattle.std.specs.String.{string_bytes}
use Rattle.um_model.specs.Syntax.{Line, joined, first_text}
use Rattle.um_syntax.specs.Places.{cow_text, is_borrowed, LiesAt}
use Rattle.um_syntax.specs.declared.joiner.Joined.{Joined}
use Rattle.um_syntax.specs.declared.joiner.Begun.{Begun}
use Rattle.um_syntax.specs.declared.joiner.Joiner.{Joiner}

-- a line is whole exactly if its text is borrowed
abbrev pub line_of : Joined → Line
line_of j = record { number = j.number; text = cow_text j.text; whole = is_borrowed j.text }

-- a line that isn't joined lies in the source
abbrev pub LiesIn : List ℕ → Joined → Type 0
LiesIn source j = is_borrowed j.text ≡ true → LiesAt source j.start (cow_text j.text)

-- the end of such a line is a place within a `usize`
abbrev pub HasPlace : Joined → Type 0
HasPlace j = is_borrowed j.text ≡ true → j.start + length (cow_text j.text) < 2 ^ 64

-- the joined lines that follow a line that goes on
abbrev pub after_begun : Option Begun → List Line → List Line
after_begun None later = later
after_begun (Some begun) later = record { number = begun.number; text = string_bytes begun.text ++ first_text later; whole = false } ∷ drop 1 later

-- all joined lines, if these physical lines still follow
abbrev pub all_lines : Joiner → List Line → List Line
all_lines joiner later = map line_of joiner.lines.items ++ after_begun joiner.begun (joined later)
