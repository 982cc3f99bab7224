-- The result of substitution, as functions of the command's words and the environment.
-- Follows systemd.service(5), "Command lines"; the law `a_substitution_is_found` says that it is the relation of the definitions.
-- The words that a process is started with stand on this file.
use Rattle.std.specs.Prelude.{ℕ, List, [], ◌∷◌, Option, Some, None, unwrap_or}
use Rattle.std.specs.List.{flat_map}
use Rattle.um_model.specs.Pieces.{reading}
use Rattle.um_model.specs.Substitution.{Variable, value_of, whole_name, piece_front}
use Rattle.um_model.specs.Words.{words_of}
use Rattle.um_model.specs.declared.words.WordRules.TheVariants.{Plain}

-- the words of a variable's value
abbrev pub value_words : List ℕ → List (List ℕ)
value_words value = unwrap_or (words_of Plain value) []

-- the word with each `${NAME}` filled in
abbrev pub filled : List Variable → List ℕ → List ℕ
filled environment word = unwrap_or (reading (piece_front environment) word) []

-- the result of a word, by the name of the variable that the whole word is, if any
abbrev pub becomes_by : List Variable → List ℕ → Option (List ℕ) → List (List ℕ)
becomes_by environment word (Some name) = value_words (value_of environment name)
becomes_by environment word None = filled environment word ∷ []

-- the result of a word: the value's words if the whole word is `$NAME`, otherwise one word
abbrev pub becomes : List Variable → List ℕ → List (List ℕ)
becomes environment word = becomes_by environment word (whole_name word)

-- the words of a command with its variables: the first stays, and each other is replaced by its result
abbrev pub substituted : List Variable → List (List ℕ) → List (List ℕ)
substituted environment [] = []
substituted environment (first ∷ words) = first ∷ flat_map (becomes environment) words
