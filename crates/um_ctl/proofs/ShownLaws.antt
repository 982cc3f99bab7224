-- Shown text holds no character that misleads.
use Rattle.std.proofs.Common.{◌≡◌, ◌<◌, ◌⊎◌, ℕ, false, true, List, [], ◌∷◌, ◌++◌, flat_map, inl, inr, refl, sym, ap, ◌∙◌, arith, rules, tests, ⊎_elim}
use Rattle.std.specs.Char.{encode_utf8, is_control}
use Rattle.std.specs.List.{list_any}
use Rattle.std.specs.Str.{IsUtf8, bytes_eq, chars, encode_utf8_all}
use Rattle.std.proofs.lemmas.Bool.{cases_Bool, cond-false}
use Rattle.std.proofs.lemmas.List.Folds.{list_any-append}
use Rattle.std.proofs.lemmas.List.{flat_map_more}
use Rattle.std.proofs.lemmas.Slice.Eq.{bytes_eq-Decides}
use Rattle.std.proofs.lemmas.Str.{chars-encodes, encodes-append}
use Rattle.um_model.specs.Names.{byte_escape}
use Rattle.um_ctl.proofs.Marks.{of_low_or_mark}
use Rattle.um_ctl.specs.Shown.{is_direction, misleads, shown, shown_char}

-- a character that misleads is low, or a mark of direction
low_or_mark : (c : ℕ) → misleads c ≡ true → (c < 160) ⊎ (is_direction c ≡ true)
low_or_mark c mislead =
    ⊎_elim (λ low. inl (search (rules, tests, arith))) (λ other. inr (search (rules, tests))) (cases_Bool (is_control c))

plain_char : (c : ℕ) → list_any misleads (shown_char c) ≡ false
unfolding lib.Utf8.encode
plain_char c =
    ⊎_elim
    (λ mislead. of_low_or_mark (λ n. list_any misleads (shown_char n)) false refl refl refl c (low_or_mark c mislead))
    (λ other. rw (cond-false (misleads c) _ (c ∷ []) other, other) refl)
    (cases_Bool (misleads c))

pub plain_chars : (cs : List ℕ) → list_any misleads (flat_map shown_char cs) ≡ false
plain_chars [] = refl
plain_chars (c ∷ cs) = list_any-append misleads (shown_char c) (flat_map shown_char cs) ∙ rw (plain_char c, plain_chars cs) refl

same_chars : (cs : List ℕ) → list_any misleads cs ≡ false → flat_map shown_char cs ≡ cs
same_chars [] none = refl
same_chars (c ∷ cs) none =
    let first : misleads c ≡ false = search (rules, tests) in
    let others : list_any misleads cs ≡ false = search (rules, tests) in
    rw (cond-false (misleads c) _ (c ∷ []) first, same_chars cs others) refl

pub same_text : (text : List ℕ) → IsUtf8 text → list_any misleads (chars text) ≡ false → shown text ≡ text
same_text text (cs, both) none =
    let found : chars text ≡ cs = ap chars (sym both.1) ∙ chars-encodes cs both.0 in
    ap encode_utf8_all (same_chars (chars text) none ∙ found) ∙ both.1

-- the text of a character's escapes is their bytes
pub escapes_of_misleading : (c : ℕ) → misleads c ≡ true → encode_utf8_all (flat_map byte_escape (encode_utf8 c)) ≡ flat_map byte_escape (encode_utf8 c)
unfolding lib.Utf8.encode
escapes_of_misleading c mislead =
    let same = of_low_or_mark (λ n. bytes_eq (encode_utf8_all (flat_map byte_escape (encode_utf8 n))) (flat_map byte_escape (encode_utf8 n))) true refl refl refl c (low_or_mark c mislead) in
    (bytes_eq-Decides _ _).0 same

-- the text of one more character comes last
pub shown_more : (cs : List ℕ) (c : ℕ) → encode_utf8_all (flat_map shown_char (cs ++ c ∷ [])) ≡ encode_utf8_all (flat_map shown_char cs) ++ encode_utf8_all (shown_char c)
shown_more cs c = ap encode_utf8_all (sym (flat_map_more shown_char [] cs c)) ∙ encodes-append (flat_map shown_char cs) (shown_char c)
