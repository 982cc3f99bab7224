-- Words as commands.
-- Follows systemd.service(5), "Command lines".
-- The settings of units and the start of a process depend on this file.
use Rattle.std.specs.Prelude.{ℕ, Bool, false, not, ◌||◌, ◌==◌, if◌then◌else◌, List, [], ◌∷◌, length, map, drop, take_while, Option, option_map, bytes_eq}
use Rattle.std.specs.List.{list_any, flat_map, slice_split}
use Rattle.um_model.specs.Pieces.{reading}
use Rattle.um_model.specs.Words.{Word, piece_of_words}
use Rattle.um_model.specs.declared.words.WordRules.TheVariants.{Escaped}

-- a command: its words, and what the signs in front of the first one say
pub record Command : Type 0 where
  pub words : List (List ℕ)
  pub ignores_failure : Bool
  pub substitutes : Bool

-- the word is written as a lone `;`
abbrev pub is_separator : Word → Bool
is_separator word = bytes_eq word.spelling (59 ∷ [])

-- what a word of a command stands for: one that is written `\;` for `;`
abbrev pub value_in_command : Word → List ℕ
value_in_command word = if bytes_eq word.spelling (92 ∷ 59 ∷ []) then 59 ∷ [] else word.value

-- `-`, `:`, `+` or `!`
abbrev pub is_sign : ℕ → Bool
is_sign b = b == 45 || b == 58 || b == 43 || b == 33

-- the command of these words, the signs cut off: `-` ignores failure, `:` leaves variables alone. Without words there is none
abbrev pub command_of : List (List ℕ) → List Command
command_of [] = []
command_of (first ∷ others) =
    let signs = take_while is_sign first in
    let says = λ (sign : ℕ). list_any (λ b. b == sign) signs in
    record { words = drop (length signs) first ∷ others; ignores_failure = says 45; substitutes = not (says 58) } ∷ []

-- the commands that the text reads as, if it can be read: its words, parted at each separator
unfoldable pub commands_read : List ℕ → Option (List Command)
commands_read text =
    option_map (λ words. flat_map (λ part. command_of (map value_in_command part)) (slice_split is_separator words)) (reading (piece_of_words Escaped) text)

-- the word can be run: an absolute path, or a name without `/`
abbrev pub is_executable_word : List ℕ → Bool
is_executable_word [] = false
is_executable_word (b ∷ bs) = b == 47 || not (list_any (λ c. c == 47) (b ∷ bs))
