-- A text as words, with quotes and escapes.
-- Follows systemd.syntax(7), "Quoting".
-- Commands, substitution and the settings of units depend on this file.
use Rattle.std.specs.Prelude.{ℕ, ◌+◌, ◌*◌, ◌-◌, Bool, false, ◌&&◌, ◌||◌, ◌==◌, nat_lt, nat_le, if◌then◌else◌}
use Rattle.std.specs.Prelude.{List, [], ◌∷◌, length, map, take, slice_index, Option, Some, None, option_map}
use Rattle.std.specs.Char.{digit_value}
use Rattle.std.specs.List.{list_all}
use Rattle.std.specs.Map.{lookup}
use Rattle.std.specs.Option.{option_map_or}
use Rattle.um_model.specs.Ascii.{is_space}
use Rattle.um_model.specs.Pieces.{Front, Unreadable, Ends, Gives, begun, reading}
use Rattle.um_model.specs.declared.words.WordRules.{WordRules}
use Rattle.um_model.specs.declared.words.WordRules.TheVariants.{Escaped, Plain}

-- ---- escapes

-- the text begins with n digits in this base
abbrev pub begins_with_digits : ℕ → ℕ → List ℕ → Bool
begins_with_digits base n bs = nat_le n (length bs) && list_all (λ b. nat_lt (digit_value b) base) (take n bs)

-- what a backslash and each of these bytes mean: a b f n r t v, s for a space, and \ " ' themselves
abbrev pub meanings : List (ℕ × ℕ)
meanings = (97, 7) ∷ (98, 8) ∷ (102, 12) ∷ (110, 10) ∷ (114, 13) ∷ (116, 9) ∷ (118, 11) ∷ (115, 32) ∷ (92, 92) ∷ (34, 34) ∷ (39, 39) ∷ []

-- the escapes left out: three octal digits, u and four hexadecimal ones, U and eight
abbrev pub is_left_out : ℕ → List ℕ → Bool
is_left_out b bs = begins_with_digits 8 3 (b ∷ bs) || ((b == 117 && begins_with_digits 16 4 bs) || (b == 85 && begins_with_digits 16 8 bs))

-- a backslash and a byte that has no meaning alone: \x and two digits are the byte from 01 to 7f that they write, whitespace stays together
-- with its backslash, and before any other byte the backslash stays by itself
abbrev pub rare_front : ℕ → List ℕ → Front ℕ
rare_front b bs =
    let value = 16 * digit_value (slice_index bs 0) + digit_value (slice_index bs 1) in
    if b == 120 && begins_with_digits 16 2 bs then (if nat_lt 0 value && nat_lt value 128 then Gives (value ∷ []) 4 else Unreadable)
    else (if is_left_out b bs then Unreadable
    else (if is_space b then Gives (92 ∷ b ∷ []) 2 else Gives (92 ∷ []) 1))

-- a backslash, by what follows it; the last byte of a text stays
abbrev pub backslash_front : List ℕ → Front ℕ
backslash_front [] = Gives (92 ∷ []) 1
backslash_front (b ∷ bs) = option_map_or (λ meaning. Gives (meaning ∷ []) 2) (lookup (λ c. b == c) meanings) (rare_front b bs)

-- the byte begins an escape: a backslash in a setting that is words, but not in a variable's value or a list of unit names
abbrev pub begins_escape : WordRules → ℕ → Bool
begins_escape Escaped b = b == 92
begins_escape other b = false

-- ---- quotes

-- " and '
abbrev pub is_quote : ℕ → Bool
is_quote b = b == 34 || b == 39

-- inside a quote: it ends at the same one, and all but escapes stays
abbrev pub quoted_front : WordRules → ℕ → ℕ → List ℕ → Front ℕ
quoted_front rules quote b bs = if begins_escape rules b then backslash_front bs else (if b == quote then Ends else Gives (b ∷ []) 1)

-- a text that begins with a quote stands for the text inside, and takes that and both quotes; a quote may stay open to the end of the
-- text in a variable's value
abbrev pub quote_front : WordRules → List ℕ → Option (List ℕ × List ℕ) → Front ℕ
quote_front rules text None = Unreadable
quote_front Plain text (Some (found, [])) = Gives found (length text)
quote_front rules text (Some (found, [])) = Unreadable
quote_front rules text (Some (found, quote ∷ left)) = Gives found (length text - length left)

-- ---- words

-- a piece of a word: an escape, the text in quotes, or a byte; whitespace ends the word
abbrev pub piece_of_word : WordRules → ℕ → List ℕ → Front ℕ
piece_of_word rules b bs =
    if begins_escape rules b then backslash_front bs
    else (if is_space b then Ends
    else (if is_quote b then quote_front rules (b ∷ bs) (begun (quoted_front rules b) bs) else Gives (b ∷ []) 1))

-- a word as it is written, and what it stands for
pub record Word : Type 0 where
  pub spelling : List ℕ
  pub value : List ℕ

-- a word that was found at the front of a text, with the rest after it: its spelling is all that stands before the rest
abbrev pub word_front : List ℕ → List ℕ × List ℕ → Front Word
word_front text found =
    let taken = length text - length found.1 in Gives (record { spelling = take taken text; value = found.0 } ∷ []) taken

-- a piece of a text of words: whitespace, or a word
abbrev pub piece_of_words : WordRules → ℕ → List ℕ → Front Word
piece_of_words rules b bs = if is_space b then Gives [] 1 else option_map_or (word_front (b ∷ bs)) (begun (piece_of_word rules) (b ∷ bs)) Unreadable

-- the words that the text reads as, if it can be read
unfoldable pub words_of : WordRules → List ℕ → Option (List (List ℕ))
words_of rules text = option_map (map (λ w. w.value)) (reading (piece_of_words rules) text)
