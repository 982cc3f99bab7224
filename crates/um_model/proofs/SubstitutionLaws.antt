-- The laws of substitution: one result; and each value has words.
use Rattle.std.proofs.Common.{◌≡◌, ◌≢◌, ℕ, zero, suc, ◌-◌, Bool, true, false, cond, eqb, List, [], ◌∷◌, ◌++◌, length, Option, Some, None, refl, sym, ap, ◌∙◌, inl, inr}
use Rattle.std.proofs.lemmas.Bool.{cases_Bool, cond-true, cond-false, ne_eqb}
use Rattle.std.proofs.lemmas.Option.{none-some, same_Some}
use Rattle.std.specs.Option.{option_map_or}
use Rattle.um_model.specs.Ascii.{is_space}
use Rattle.um_model.specs.Pieces.{Front, Gives, Unreadable}
use Rattle.um_model.proofs.WordSteps.{begun-read}
use Rattle.um_model.specs.WordSpellings.{bare}
use Rattle.um_model.specs.Words.{is_quote, Word, word_front, piece_of_words, words_of}
use Rattle.um_model.specs.Substitution.{Variable, value_of, whole_name, braced_name, dollar_front, piece_front, Becomes, splits, fills, AllBecome, no_more, one_more, AreSubstituted, no_words, first_stays}
use Rattle.um_model.specs.declared.words.WordRules.TheVariants.{Plain}
use Rattle.um_model.specs.Text.{first_passes}
use Rattle.um_model.proofs.PiecesLaws.{reading-StandsForText, IsRead, has_reading}
use Rattle.um_model.specs.Pieces.{StandsForText}
use Rattle.um_model.proofs.WordsLaws.{read, by_spelling, with_front, first_word, words_of-AreWords}
use Rattle.um_model.proofs.Forms.{variable_front}
use Rattle.um_model.specs.FileForms.{word_values}

-- a byte that is no `$` stands for itself
pub plain_piece : (environment : List Variable) (b : ℕ) (bs : List ℕ) → b ≢ 36 → piece_front environment b bs ≡ Gives (b ∷ []) 1
plain_piece environment b bs differ = cond-false _ _ _ (ne_eqb b 36 differ)

-- a word becomes at most one list of words
pub same_becomes : (environment : List Variable) (word : List ℕ) (a b : List (List ℕ)) → Becomes environment word a → Becomes environment word b → a ≡ b
same_becomes environment word a b (splits w name words whole are) (splits v other more same others) =
    let name_is : name ≡ other = same_Some name other (sym whole ∙ same) in
    same_Some words more (sym are ∙ ap (λ n. words_of Plain (value_of environment n)) name_is ∙ others)
same_becomes environment word a b (splits w name words whole are) (fills v text none_whole stand) = absurd (none-some name (sym none_whole ∙ whole))
same_becomes environment word a b (fills w text none_whole stand) (splits v name words whole are) = absurd (none-some name (sym none_whole ∙ whole))
same_becomes environment word a b (fills w text none_whole stand) (fills v other none_other stands_too) =
    ap (λ t. t ∷ []) (same_Some text other (sym stand ∙ stands_too))

no_words_become : (environment : List Variable) (b : List (List ℕ)) → AllBecome environment [] b → [] ≡ b
no_words_become environment b no_more = refl

first_becomes : (environment : List Variable) (word : List ℕ) (words b : List (List ℕ)) → AllBecome environment (word ∷ words) b
    → (some : List (List ℕ)) × (more : List (List ℕ)) × Becomes environment word some × AllBecome environment words more × (some ++ more ≡ b)
first_becomes environment word words b (one_more w ws some more becomes rest) = (some, more, becomes, rest, refl)

-- and so do several words
pub same_all : (environment : List Variable) (words a b : List (List ℕ)) → AllBecome environment words a → AllBecome environment words b → a ≡ b
same_all environment words a b no_more others = no_words_become environment b others
same_all environment words a b (one_more word ws some more becomes rest) others =
    let t = first_becomes environment word ws b others in
    ap (λ x. x ++ more) (same_becomes environment word some t.0 becomes t.2)
    ∙ ap (λ x. t.0 ++ x) (same_all environment ws more t.1 rest t.3) ∙ t.4

stays_first : (environment : List Variable) (first : List ℕ) (words b : List (List ℕ)) → AreSubstituted environment (first ∷ words) b
    → (others : List (List ℕ)) × AllBecome environment words others × (first ∷ others ≡ b)
stays_first environment first words b (first_stays f ws others become) = (others, become, refl)

no_words_stay : (environment : List Variable) (b : List (List ℕ)) → AreSubstituted environment [] b → [] ≡ b
no_words_stay environment b no_words = refl

-- the words of a command become one list at most
pub same_substituted : (environment : List Variable) (words a b : List (List ℕ)) → AreSubstituted environment words a → AreSubstituted environment words b → a ≡ b
same_substituted environment words a b no_words others = no_words_stay environment b others
same_substituted environment words a b (first_stays first ws more become) others =
    let t = stays_first environment first ws b others in
    ap (λ x. first ∷ x) (same_all environment ws more t.0 become t.1) ∙ t.2

-- Each value has words.

abbrev Reads : Option (List ℕ × List ℕ) → Type 0
Reads r = (word : List ℕ) × (rest : List ℕ) × (r ≡ Some (word, rest))

reads_front : (front : List ℕ) (r : Option (List ℕ × List ℕ)) → Reads r → Reads (with_front front r)
reads_front front r found = (front ++ found.0, found.1, ap (with_front front) found.2)

reads_spelling : (quote : Option ℕ) (b : ℕ) (bs : List ℕ) → ((n : ℕ) (other : Option ℕ) → Reads (read Plain n other bs))
    → Reads (by_spelling (bare quote b) quote b bs (λ n other. read Plain n other bs))
reads_spelling None b bs later = elim (cases_Bool (is_space b)) [
  | inl white ↦ rw white ([], b ∷ bs, refl)
  | inr apart ↦ rw apart (elim (cases_Bool (is_quote b)) [
    | inl quotes ↦ rw quotes (later 0 (Some b))
    | inr plain ↦ rw plain (reads_front (b ∷ []) (read Plain 0 None bs) (later 0 None))
  ])
]
reads_spelling (Some quote) b bs later = elim (cases_Bool (eqb b quote)) [
  | inl closes ↦ rw closes (later 0 None)
  | inr plain ↦ rw plain (reads_front (b ∷ []) (read Plain 0 (Some quote) bs) (later 0 (Some quote)))
]

plain_reads : (bs : List ℕ) (n : ℕ) (quote : Option ℕ) → Reads (read Plain n quote bs)
plain_reads [] n quote = ([], [], refl)
plain_reads (b ∷ bs) (suc n) quote = plain_reads bs n quote
plain_reads (b ∷ bs) zero quote = reads_spelling quote b bs (λ n other. plain_reads bs n other)

have_read : (b : ℕ) (bs : List ℕ) → IsRead (piece_of_words Plain b bs)
have_read b bs = elim (cases_Bool (is_space b)) [
  | inl white ↦ ([], 1, cond-true _ _ _ white)
  | inr apart ↦
      let found = plain_reads (b ∷ bs) 0 None in
      (first_word (b ∷ bs) found.1 found.0 ∷ [], length (b ∷ bs) - length found.1, cond-false _ _ _ apart ∙ ap (λ o. option_map_or (word_front (b ∷ bs)) o Unreadable) (begun-read Plain (b ∷ bs) ∙ found.2))
]

-- each value reads as words
pub has_words : (text : List ℕ) → (words : List Word) × StandsForText (piece_of_words Plain) text words
has_words text = has_reading (piece_of_words Plain) have_read text

-- Each word becomes some words.

read_if : (b : Bool) (f g : Front ℕ) → IsRead f → IsRead g → IsRead (cond b f g)
read_if true f g first second = first
read_if false f g first second = second

variable_reads : (environment : List Variable) (name : Option (List ℕ)) → IsRead (variable_front environment name)
variable_reads environment None = (_, _, refl)
variable_reads environment (Some name) = (_, _, refl)

piece_reads : (environment : List Variable) (b : ℕ) (bs : List ℕ) → IsRead (piece_front environment b bs)
piece_reads environment b bs =
    read_if (eqb b 36) (dollar_front environment bs) (Gives (b ∷ []) 1)
    (read_if (first_passes (λ x. eqb x 36) bs) (Gives (36 ∷ []) 2) (variable_front environment (braced_name bs)) (_, _, refl) (variable_reads environment (braced_name bs)))
    (_, _, refl)

become_some : (environment : List Variable) (word : List ℕ) → (words : List (List ℕ)) × Becomes environment word words
become_some environment word = elim (whole_name word) as (λ o. whole_name word ≡ o → (words : List (List ℕ)) × Becomes environment word words) [
  | Some name ↦ λ whole.
      let found = has_words (value_of environment name) in
      (word_values found.0, splits word name (word_values found.0) whole (words_of-AreWords Plain (value_of environment name) (word_values found.0) (found.0, found.1, refl)))
  | None ↦ λ none_whole.
      let filled = has_reading (piece_front environment) (piece_reads environment) word in
      (filled.0 ∷ [], fills word filled.0 none_whole (reading-StandsForText (piece_front environment) word filled.0 filled.1))
] refl

all_become_some : (environment : List Variable) (words : List (List ℕ)) → (out : List (List ℕ)) × AllBecome environment words out
all_become_some environment [] = ([], no_more)
all_become_some environment (word ∷ words) =
    let first = become_some environment word in
    let others = all_become_some environment words in
    (first.0 ++ others.0, one_more word words first.0 others.0 first.1 others.1)

-- the words of a command become some
pub have_substituted : (environment : List Variable) (words : List (List ℕ)) → (out : List (List ℕ)) × AreSubstituted environment words out
have_substituted environment [] = ([], no_words)
have_substituted environment (first ∷ words) =
    let others = all_become_some environment words in
    (first ∷ others.0, first_stays first words others.0 others.1)
