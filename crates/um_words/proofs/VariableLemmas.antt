-- Names in words, and one more piece of a word, about lists alone.
use Rattle.std.proofs.Common.{◌≡◌, ◌≢◌, ◌<◌, ℕ, ◌+◌, ◌-◌, Bool, true, false, ◌&&◌, cond, eqb, List, [], ◌∷◌, ◌++◌, length, get_or, drop, Option, Some, None, refl, sym, ap, ◌∙◌, append-nil, arith}
use Rattle.std.specs.List.{prefix_len, take_while}
use Rattle.std.specs.Str.{IsUtf8, IsCharBoundary}
use Rattle.std.proofs.lemmas.Bool.{cond-false, ne_eqb}
use Rattle.std.proofs.lemmas.Bool.Decides.{nat_tests}
use Rattle.um_model.specs.Text.{first_passes}
use Rattle.um_model.specs.Pieces.{Gives}
use Rattle.um_model.specs.Substitution as pure
use Rattle.um_model.specs.Substitution.{is_name_byte, is_variable_name, whole_name, braced_name, dollar_front, piece_front}
use Rattle.um_model.proofs.PiecesLaws.{prefixed, reading, reading-append, reading_more_after, StandsForText-reading}
use Rattle.um_model.specs.Pieces.{StandsForText}
use Rattle.um_model.proofs.SubstitutionLaws.{plain_piece}
use Rattle.um_words.proofs.WordLemmas.{boundary_behind}
use Rattle.um_words.specs.declared.variables.Variable.{Variable}

name_ascii : (b : ℕ) → is_name_byte b ≡ true → b < 128
name_ascii b e = grind (arith, nat_tests)

-- a text may be cut after the bytes of a name
pub boundary_behind_name : (text : List ℕ) → IsUtf8 text → IsCharBoundary text (prefix_len is_name_byte text)
boundary_behind_name text utf8 = boundary_behind is_name_byte name_ascii text utf8

-- a text that doesn't begin with this byte
pub not_first : (c : ℕ) (text : List ℕ) → ((rest : List ℕ) → text ≢ c ∷ rest) → first_passes (λ b. eqb b c) text ≡ false
not_first c [] other = refl
not_first c (b ∷ bs) other = ne_eqb b c (λ e. other bs (ap (λ x. x ∷ bs) e))

pub no_whole_name : (text : List ℕ) → ((rest : List ℕ) → text ≢ 36 ∷ rest) → whole_name text ≡ None
no_whole_name [] other = refl
no_whole_name (b ∷ bs) other = ap (λ t. cond (t && is_variable_name bs) (Some bs) None) (ne_eqb b 36 (λ e. other bs (ap (λ x. x ∷ bs) e)))

pub no_brace : (text : List ℕ) → ((rest : List ℕ) → text ≢ 123 ∷ rest) → braced_name text ≡ None
no_brace [] other = refl
no_brace (b ∷ bs) other = cond-false _ _ _ (ne_eqb b 123 (λ e. other bs (ap (λ x. x ∷ bs) e)))

and_false : (t : Bool) → (t && false) ≡ false
and_false true = refl
and_false false = refl

-- a name that no `}` follows
pub not_closed : (text inner name after : List ℕ) → text ≡ 123 ∷ inner → name ≡ take_while is_name_byte inner → after ≡ drop (length name) inner
    → ((rest : List ℕ) → after ≢ 125 ∷ rest) → braced_name text ≡ None
not_closed text inner name after e name_is after_is other =
    ap braced_name e
    ∙ ap (λ n. cond (is_variable_name n && first_passes (λ b. eqb b 125) (drop (length n) inner)) (Some n) None) (sym name_is)
    ∙ ap (λ t. cond (is_variable_name name && t) (Some name) None) (ap (first_passes (λ b. eqb b 125)) (sym after_is) ∙ not_first 125 after other)
    ∙ ap (λ t. cond t (Some name) None) (and_false (is_variable_name name))

-- one more piece
pub filled_more : (environment : List pure.Variable) (text rest front behind value after out : List ℕ) (n : ℕ) (whole : Option (List ℕ))
    → rest ≡ front ++ 36 ∷ behind → ((i : ℕ) → i < length front → get_or front i 0 ≢ 36) → dollar_front environment behind ≡ Gives value (n + 1)
    → after ≡ drop n behind → out ≡ (text ++ front) ++ value → prefixed text (reading (piece_front environment) rest) ≡ whole
    → prefixed out (reading (piece_front environment) after) ≡ whole
filled_more environment text rest front behind value after out n whole e plain gives left made told =
    let F = piece_front environment in
    let n_is : n ≡ n + 1 - 1 = omega arith in
    ap (λ o. prefixed o (reading F after)) made
    ∙ ap (λ r. prefixed ((text ++ front) ++ value) (reading F r)) (left ∙ ap (λ k. drop k behind) n_is)
    ∙ sym (reading_more_after F 36 (n + 1) front behind value text (λ i below later. plain_piece environment (get_or front i 0) later (plain i below)) gives)
    ∙ ap (λ r. prefixed text (reading F r)) (sym e) ∙ told

-- and no further piece
pub filled_end : (environment : List pure.Variable) (text rest out word : List ℕ) → ((i : ℕ) → i < length rest → get_or rest i 0 ≢ 36) → out ≡ text ++ rest
    → prefixed text (reading (piece_front environment) rest) ≡ reading (piece_front environment) word → StandsForText (piece_front environment) word out
filled_end environment text rest out word plain made told =
    let F = piece_front environment in
    let done : reading F rest ≡ Some rest =
    ap (reading F) (sym (append-nil rest)) ∙ reading-append F rest [] (λ i below later. plain_piece environment (get_or rest i 0) later (plain i below))
    ∙ ap Some (append-nil rest) in
    StandsForText-reading F word out (sym told ∙ ap (prefixed text) done ∙ ap Some (sym made))
