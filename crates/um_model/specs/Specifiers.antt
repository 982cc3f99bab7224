-- Specifiers: the texts that a `%` and a letter stand for in the files of a unit.
-- Follows systemd.unit(5), "Specifiers".
-- Settings and enabling depend on this file.
use Rattle.std.specs.Prelude.{ℕ, List, [], ◌∷◌, Option, Some, None, option_and_then, unwrap_or, if◌then◌else◌, ◌==◌}
use Rattle.std.specs.Map.{lookup}
use Rattle.std.specs.Option.{option_map_or}
use Rattle.std.specs.List.{after_last}
use Rattle.std.specs.Str.{is_utf8, IsUtf8}
use Rattle.um_model.specs.Ascii.{is_letter}
use Rattle.um_model.specs.Names.{stem_of, prefix_of, instance_of, unescape_front}
use Rattle.um_model.specs.Pieces.{Front, Unreadable, Gives, reading, StandsForText}
use Rattle.um_model.specs.Names.{instance_or_empty}

-- the text that a letter stands for: `n` the full name, `N` without the suffix, `p` the prefix, `i` the instance as written, empty if there
-- is none, `I` unescaped, `j` the prefix after its last `-`
abbrev pub specified : List ℕ → Option (List ℕ) → ℕ → Option (List ℕ)
specified name unescaped letter =
    option_and_then (λ said. said) (lookup (λ c. letter == c) (
    (110, Some name) ∷ (78, Some (stem_of name)) ∷ (112, Some (prefix_of name)) ∷ (105, Some (unwrap_or (instance_of name) [])) ∷ (73, unescaped)
    ∷ (106, Some (after_last (λ b. b == 45) (prefix_of name))) ∷ []))

-- a `%`, by what follows it: another `%` makes it one `%`, a letter makes it the letter's text; before anything else it stays
abbrev pub percent_front : List ℕ → Option (List ℕ) → List ℕ → Front ℕ
percent_front name unescaped [] = Gives (37 ∷ []) 1
percent_front name unescaped (b ∷ bs) =
    if b == 37 then Gives (37 ∷ []) 2
    else (if is_letter b then option_map_or (λ said. Gives said 2) (specified name unescaped b) Unreadable else Gives (37 ∷ []) 1)

-- any byte but a `%` stays
abbrev pub specifier_front : List ℕ → Option (List ℕ) → ℕ → List ℕ → Front ℕ
specifier_front name unescaped b bs = if b == 37 then percent_front name unescaped bs else Gives (b ∷ []) 1

-- the text that the escapes of an instance stand for, if it is one
abbrev pub unescaped_of : List ℕ → Option (List ℕ)
unescaped_of escaped = option_and_then (λ text. if is_utf8 text then Some text else None) (reading unescape_front escaped)

-- the text that a text stands for in the files of the unit of that name
unfoldable pub expanded_of : List ℕ → List ℕ → Option (List ℕ)
expanded_of name text = reading (specifier_front name (unescaped_of (unwrap_or (instance_of name) []))) text

-- the text stands for these bytes
abbrev pub StandsForBytes : List ℕ → List ℕ → Type 0
StandsForBytes text bytes = StandsForText unescape_front text bytes

-- the text that the bytes' escapes stand for, if it is one
abbrev pub IsUnescaped : List ℕ → Option (List ℕ) → Type 0
IsUnescaped escaped (Some text) = StandsForBytes escaped text × IsUtf8 text
IsUnescaped escaped None = (bytes : List ℕ) → StandsForBytes escaped bytes → ¬ (IsUtf8 bytes)

-- the text stands for another one in the files of the unit of that name
pub record IsExpanded (name text expanded : List ℕ) : Type 0 where
  pub unescaped : Option (List ℕ)
  pub instance : IsUnescaped (instance_or_empty name) unescaped
  pub pieces : StandsForText (specifier_front name unescaped) text expanded
