-- Variables in the words of a command, as the command starts.
-- Follows systemd.service(5), "Command lines".
-- The start of a service's process depends on this file.
use Rattle.std.specs.Prelude.{◌≡◌, ℕ, ◌+◌, Bool, false, ◌&&◌, ◌||◌, ◌==◌, if◌then◌else◌, List, [], ◌∷◌, ◌++◌, length, drop, reverse, find}
use Rattle.std.specs.Prelude.{take_while, Option, Some, None, bytes_eq}
use Rattle.std.specs.Option.{option_map_or}
use Rattle.std.specs.List.{list_all}
use Rattle.um_model.specs.Ascii.{is_letter, is_digit}
use Rattle.um_model.specs.Text.{first_passes}
use Rattle.um_model.specs.Pieces.{Front, Gives, reading}
use Rattle.um_model.specs.Words.{words_of}
use Rattle.um_model.specs.declared.words.WordRules.TheVariants.{Plain}

-- a variable of the environment
pub record Variable : Type 0 where
  pub name : List ℕ
  pub value : List ℕ

-- a letter or `_`
abbrev pub is_name_start : ℕ → Bool
is_name_start b = is_letter b || b == 95

-- a letter, a digit or `_`
abbrev pub is_name_byte : ℕ → Bool
is_name_byte b = is_name_start b || is_digit b

-- the text is the name of a variable
abbrev pub is_variable_name : List ℕ → Bool
is_variable_name [] = false
is_variable_name (b ∷ bs) = is_name_start b && list_all is_name_byte bs

-- the value that the environment gives the name: of equal names the later counts, and an unset one is empty
abbrev pub value_of : List Variable → List ℕ → List ℕ
value_of environment name = option_map_or (λ v. v.value) (find (λ v. bytes_eq v.name name) (reverse environment)) []

-- the name of a word that is `$NAME` whole
abbrev pub whole_name : List ℕ → Option (List ℕ)
whole_name [] = None
whole_name (b ∷ bs) = if b == 36 && is_variable_name bs then Some bs else None

-- the name of a text that begins with `{NAME}`
abbrev pub braced_name : List ℕ → Option (List ℕ)
braced_name [] = None
braced_name (b ∷ bs) =
    let name = take_while is_name_byte bs in
    if b == 123 then (if is_variable_name name && first_passes (λ c. c == 125) (drop (length name) bs) then Some name else None) else None

-- a `$`, by what follows it: `$$` stands for one, and `${NAME}` for the value; before anything else it stands for itself
abbrev pub dollar_front : List Variable → List ℕ → Front ℕ
dollar_front environment bs =
    if first_passes (λ b. b == 36) bs then Gives (36 ∷ []) 2
    else option_map_or (λ name. Gives (value_of environment name) (length name + 3)) (braced_name bs) (Gives (36 ∷ []) 1)

-- any other byte stands for itself
abbrev pub piece_front : List Variable → ℕ → List ℕ → Front ℕ
piece_front environment b bs = if b == 36 then dollar_front environment bs else Gives (b ∷ []) 1

-- a word becomes these words: if the word is `$NAME` whole, those of the value, else one word, piece by piece
pub data Becomes (environment : List Variable) : List ℕ → List (List ℕ) → Type 0 where
  splits : (word name : List ℕ) (words : List (List ℕ)) → whole_name word ≡ Some name → words_of Plain (value_of environment name) ≡ Some words
      → Becomes environment word words
  fills : (word text : List ℕ) → whole_name word ≡ None → reading (piece_front environment) word ≡ Some text
      → Becomes environment word (text ∷ [])

-- each word becomes its words, in order
pub data AllBecome (environment : List Variable) : List (List ℕ) → List (List ℕ) → Type 0 where
  no_more : AllBecome environment [] []
  one_more : (word : List ℕ) (words some more : List (List ℕ)) → Becomes environment word some → AllBecome environment words more
      → AllBecome environment (word ∷ words) (some ++ more)

-- the words of a command with its variables: the first stays, and each other becomes its words
pub data AreSubstituted (environment : List Variable) : List (List ℕ) → List (List ℕ) → Type 0 where
  no_words : AreSubstituted environment [] []
  first_stays : (first : List ℕ) (words others : List (List ℕ)) → AllBecome environment words others
      → AreSubstituted environment (first ∷ words) (first ∷ others)
