-- How words are spelled, inside quotes or not: byte by byte, as code reads them, and as relations that have one reading at most.
-- Follows systemd.syntax(7), "Quoting".
-- The contracts and laws of um_words depend on this file.
use Rattle.std.specs.Prelude.{ℕ, Option, ◌&&◌, nat_lt, List, ◌==◌, [], ◌∷◌, Some, None, Bool, true, is_none, ◌-◌, take, zero, suc, ◌||◌, not, ◌≡◌, ◌++◌, drop, if◌then◌else◌}
use Rattle.um_model.specs.Ascii.{is_space}
use Rattle.um_model.specs.Words.{begins_with_digits, is_left_out, is_quote, begins_escape, Word, piece_of_words}
use Rattle.um_model.specs.FileForms.{hex_value, meaning_of, with_front, word_values, commands_among}
use Rattle.std.specs.Option.{option_map_or}
use Rattle.um_model.specs.declared.words.WordRules.{WordRules}
use Rattle.um_model.specs.declared.words.WordRules.TheVariants.{Plain, Escaped}
use Rattle.um_model.specs.Pieces.{StandsForText}
use Rattle.um_model.specs.Commands.{Command}

-- the front of a text, inside a quote or not: the word ends before it, it can't be read, a quote opens or closes,
-- it means a byte and takes n bytes, or n bytes stay as written
pub data Spelling : Type 0 where
  Stop : Spelling
  Bad : Spelling
  Turn : Option ℕ → Spelling
  Means : ℕ → ℕ → Spelling
  Kept : ℕ → Spelling

-- \x and two digits
abbrev pub hex_spelling : ℕ → Spelling
hex_spelling value = if nat_lt 0 value && nat_lt value 128 then Means value 4 else Bad

-- a backslash and a byte that has no meaning alone
abbrev pub rare_escape : ℕ → List ℕ → Spelling
rare_escape b bs =
    if b == 120 && begins_with_digits 16 2 bs then hex_spelling (hex_value bs)
    else (if is_left_out b bs then Bad
    else (if is_space b then Kept 2 else Kept 1))

-- a backslash, by what follows it
abbrev pub escape : List ℕ → Spelling
escape [] = Kept 1
escape (b ∷ bs) = option_map_or (λ meaning. Means meaning 2) (meaning_of b) (rare_escape b bs)

-- a byte that begins no escape
abbrev pub bare : Option ℕ → ℕ → Spelling
bare None b = if is_space b then Stop else (if is_quote b then Turn (Some b) else Kept 1)
bare (Some quote) b = if b == quote then Turn None else Kept 1

-- how the front of a text is spelled, inside this quote or none
abbrev pub spelled_at : WordRules → Option ℕ → ℕ → List ℕ → Spelling
spelled_at rules quote b bs = if begins_escape rules b then escape bs else bare quote b

-- a word may end with the text: outside quotes, and in a variable's value anywhere
abbrev pub may_end : WordRules → Option ℕ → Bool
may_end Plain quote = true
may_end other quote = is_none quote

-- nothing is left
abbrev pub at_end : WordRules → Option ℕ → Option (List ℕ × List ℕ)
at_end rules quote = if may_end rules quote then Some ([], []) else None

-- the word and the rest, by the spelling at the front and the reading of the text after the bytes that it takes
abbrev pub by_spelling : Spelling → Option ℕ → ℕ → List ℕ → (ℕ → Option ℕ → Option (List ℕ × List ℕ)) → Option (List ℕ × List ℕ)
by_spelling Stop quote b bs later = Some ([], b ∷ bs)
by_spelling Bad quote b bs later = None
by_spelling (Turn other) quote b bs later = later 0 other
by_spelling (Means meaning n) quote b bs later = with_front (meaning ∷ []) (later (n - 1) quote)
by_spelling (Kept n) quote b bs later = with_front (b ∷ take (n - 1) bs) (later (n - 1) quote)

-- the word and the rest after it, once this many bytes are skipped
abbrev pub read : WordRules → ℕ → Option ℕ → List ℕ → Option (List ℕ × List ℕ)
read rules skip quote [] = at_end rules quote
read rules (suc skip) quote (b ∷ bs) = read rules skip quote bs
read rules zero quote (b ∷ bs) = by_spelling (spelled_at rules quote b bs) quote b bs (λ n other. read rules n other bs)

-- the byte ends or turns a word, outside quotes or in one
abbrev pub marks : Option ℕ → ℕ → Bool
marks None b = is_space b || is_quote b
marks (Some quote) b = b == quote

-- the byte stands for itself
abbrev pub is_plain : WordRules → Option ℕ → ℕ → Bool
is_plain rules quote b = not (begins_escape rules b || marks quote b)

-- The word at the front of a text, as a relation: inside this quote, or none, the text begins with spellings of the word's bytes up to the
-- word's end, and then the rest.
pub data InWord (rules : WordRules) : Option ℕ → List ℕ → List ℕ → List ℕ → Type 0 where
  ends : (quote : Option ℕ) → may_end rules quote ≡ true → InWord rules quote [] [] []
  stops : (quote : Option ℕ) (b : ℕ) (bs : List ℕ) → spelled_at rules quote b bs ≡ Stop → InWord rules quote (b ∷ bs) [] (b ∷ bs)
  turns : (quote other : Option ℕ) (b : ℕ) (bs word rest : List ℕ) → spelled_at rules quote b bs ≡ Turn other
      → InWord rules other bs word rest → InWord rules quote (b ∷ bs) word rest
  stands : (quote : Option ℕ) (b meaning n : ℕ) (bs word rest : List ℕ) → spelled_at rules quote b bs ≡ Means meaning n
      → InWord rules quote (drop (n - 1) bs) word rest → InWord rules quote (b ∷ bs) (meaning ∷ word) rest
  keeps : (quote : Option ℕ) (b n : ℕ) (bs word rest : List ℕ) → spelled_at rules quote b bs ≡ Kept n
      → InWord rules quote (drop (n - 1) bs) word rest → InWord rules quote (b ∷ bs) (b ∷ take (n - 1) bs ++ word) rest

-- the text reads as these words
abbrev pub AreWords : WordRules → List ℕ → List (List ℕ) → Type 0
AreWords rules text words = (spelled : List Word) × StandsForText (piece_of_words rules) text spelled × (word_values spelled ≡ words)

-- the text reads as these commands
abbrev pub AreCommands : List ℕ → List Command → Type 0
AreCommands text commands = (spelled : List Word) × StandsForText (piece_of_words Escaped) text spelled × (commands_among spelled ≡ commands)
