-- The words of a value and the result of a word, step by step from the front.
use Rattle.std.proofs.Common.{◌≡◌, ◌≢◌, ◌<◌, ℕ, ◌+◌, ◌-◌, Bool, true, false, cond, eqb, List, [], ◌∷◌, ◌++◌, length, get_or, drop, Option, Some, None, option_map, refl, sym, ap, ◌∙◌, append-nil, arith}
use Rattle.std.specs.Prelude.{unwrap_or}
use Rattle.std.specs.List.{flat_map}
use Rattle.um_model.specs.Pieces.{Front, Gives, reading}
use Rattle.um_model.specs.Substitution.{Variable, value_of, whole_name, braced_name, dollar_front, piece_front, Becomes, splits, fills, AllBecome, no_more, one_more, AreSubstituted, no_words, first_stays}
use Rattle.um_model.specs.Text.{first_passes}
use Rattle.um_model.specs.Words.{piece_of_words, words_of}
use Rattle.um_model.specs.declared.words.WordRules.TheVariants.{Plain}
use Rattle.um_model.specs.FileForms.{word_values}
use Rattle.um_model.proofs.Forms.{variable_front}
use Rattle.um_model.proofs.PiecesLaws.{reading-StandsForText, IsRead, has_reading, prefixed, prefixed-nil, reading-append, reading_more_after}
use Rattle.um_model.specs.Pieces.{StandsForText}
use Rattle.um_model.proofs.SubstitutionLaws.{has_words, plain_piece, same_substituted}
use Rattle.um_words.specs.Substituted.{value_words, filled, becomes, becomes_by, substituted}

-- ---- the words of a value

words_read : (value : List ℕ) → value_words value ≡ unwrap_or (option_map word_values (reading (piece_of_words Plain) value)) []
unfolding words_of
words_read value = refl

pub no_words_in : value_words [] ≡ []
no_words_in = words_read []

-- ---- a word that is filled in

read_if : (b : Bool) (f g : Front ℕ) → IsRead f → IsRead g → IsRead (cond b f g)
read_if true f g first second = first
read_if false f g first second = second

variable_reads : (environment : List Variable) (name : Option (List ℕ)) → IsRead (variable_front environment name)
variable_reads environment None = (_, _, refl)
variable_reads environment (Some name) = (_, _, refl)

piece_reads : (environment : List Variable) (b : ℕ) (bs : List ℕ) → IsRead (piece_front environment b bs)
piece_reads environment b bs =
    read_if (eqb b 36) (dollar_front environment bs) (Gives (b ∷ []) 1)
    (read_if (first_passes (λ x. eqb x 36) bs) (Gives (36 ∷ []) 2) (variable_front environment (braced_name bs)) (_, _, refl) (variable_reads environment (braced_name bs)))
    (_, _, refl)

unwrapped : (r : Option (List ℕ)) (text : List ℕ) → r ≡ Some text → r ≡ Some (unwrap_or r [])
unwrapped r text e = e ∙ ap (λ o. Some (unwrap_or o [])) (sym e)

-- each word can be filled in
pub is_filled : (environment : List Variable) (word : List ℕ) → reading (piece_front environment) word ≡ Some (filled environment word)
is_filled environment word =
    let found = has_reading (piece_front environment) (piece_reads environment) word in
    unwrapped (reading (piece_front environment) word) found.0 (reading-StandsForText (piece_front environment) word found.0 found.1)

-- one more piece
pub filled_piece : (environment : List Variable) (rest front behind value after : List ℕ) (n : ℕ)
    → rest ≡ front ++ 36 ∷ behind → ((i : ℕ) → i < length front → get_or front i 0 ≢ 36) → dollar_front environment behind ≡ Gives value (n + 1)
    → after ≡ drop n behind → filled environment rest ≡ (front ++ value) ++ filled environment after
filled_piece environment rest front behind value after n e plain gives left =
    let F = piece_front environment in
    let n_is : n + 1 - 1 ≡ n = omega arith in
    let more : reading F rest ≡ prefixed (front ++ value) (reading F after) =
    ap (reading F) e ∙ sym (prefixed-nil (reading F (front ++ 36 ∷ behind)))
    ∙ reading_more_after F 36 (n + 1) front behind value [] (λ i below later. plain_piece environment (get_or front i 0) later (plain i below)) gives
    ∙ ap (λ r. prefixed (front ++ value) (reading F r)) (ap (λ k. drop k behind) n_is ∙ sym left) in
    ap (λ r. unwrap_or r []) (more ∙ ap (prefixed (front ++ value)) (is_filled environment after))

-- and no further one
pub filled_whole : (environment : List Variable) (rest : List ℕ) → ((i : ℕ) → i < length rest → get_or rest i 0 ≢ 36) → filled environment rest ≡ rest
filled_whole environment rest plain =
    let F = piece_front environment in
    ap (λ r. unwrap_or r [])
    (ap (reading F) (sym (append-nil rest)) ∙ reading-append F rest [] (λ i below later. plain_piece environment (get_or rest i 0) later (plain i below)) ∙ ap Some (append-nil rest))

-- ---- the results of words

words_there : (value : List ℕ) → words_of Plain value ≡ Some (value_words value)
unfolding words_of
words_there value =
    let some = has_words value in
    let there = ap (option_map word_values) (reading-StandsForText (piece_of_words Plain) value some.0 some.1) in
    there ∙ ap (λ o. Some (unwrap_or o [])) (sym there)

becomes_named : (environment : List Variable) (word : List ℕ) (name : Option (List ℕ)) → whole_name word ≡ name → Becomes environment word (becomes_by environment word name)
becomes_named environment word (Some name) e = splits word name (value_words (value_of environment name)) e (words_there (value_of environment name))
becomes_named environment word None e = fills word (filled environment word) e (is_filled environment word)

all_become : (environment : List Variable) (words : List (List ℕ)) → AllBecome environment words (flat_map (becomes environment) words)
all_become environment [] = no_more
all_become environment (word ∷ words) =
    one_more word words (becomes environment word) (flat_map (becomes environment) words) (becomes_named environment word (whole_name word) refl) (all_become environment words)

-- the function finds the result of the words
pub are_substituted : (environment : List Variable) (words : List (List ℕ)) → AreSubstituted environment words (substituted environment words)
are_substituted environment [] = no_words
are_substituted environment (first ∷ words) = first_stays first words (flat_map (becomes environment) words) (all_become environment words)

pub substituted_is : (environment : List Variable) (words out : List (List ℕ)) → AreSubstituted environment words out → substituted environment words ≡ out
substituted_is environment words out are = same_substituted environment words (substituted environment words) out (are_substituted environment words) are

-- the filled word is the one that the function finds
pub filled_is : (environment : List Variable) (word text : List ℕ) → StandsForText (piece_front environment) word text → filled environment word ≡ text
filled_is environment word text stands = ap (λ r. unwrap_or r []) (reading-StandsForText (piece_front environment) word text stands)
