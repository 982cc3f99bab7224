-- Text for a terminal holds no character that misleads and that JSON doesn't escape.
use Rattle.std.proofs.Common.{◌≡◌, ◌<◌, ◌⊎◌, ℕ, false, true, List, [], ◌∷◌, ◌++◌, flat_map, inl, inr, refl, sym, ap, ◌∙◌, arith, rules, tests, ⊎_elim}
use Rattle.std.specs.Int.{is_in_range}
use Rattle.std.specs.List.{list_any}
use Rattle.std.specs.Str.{IsUtf8, bytes_eq, chars, encode_utf8_all}
use Rattle.std.proofs.lemmas.Bool.{cases_Bool, cond-false}
use Rattle.std.proofs.lemmas.List.Folds.{list_any-append}
use Rattle.std.proofs.lemmas.List.{flat_map_more}
use Rattle.std.proofs.lemmas.Slice.Eq.{bytes_eq-Decides}
use Rattle.std.proofs.lemmas.Str.{chars-encodes, encodes-append}
use Rattle.um_ctl.proofs.Marks.{of_low_or_mark}
use Rattle.um_ctl.specs.Shown.{is_direction, misleads_in_json, json_escape, on_terminal, terminal_char}

-- a character that misleads is low, or a mark of direction
low_or_mark : (c : ℕ) → misleads_in_json c ≡ true → (c < 160) ⊎ (is_direction c ≡ true)
low_or_mark c mislead =
    ⊎_elim (λ low. inl (search (rules, tests, arith))) (λ other. inr (search (rules, tests))) (cases_Bool (is_in_range 127 159 c))

plain_char : (c : ℕ) → list_any misleads_in_json (terminal_char c) ≡ false
plain_char c =
    ⊎_elim
    (λ mislead. of_low_or_mark (λ n. list_any misleads_in_json (terminal_char n)) false refl refl refl c (low_or_mark c mislead))
    (λ other. rw (cond-false (misleads_in_json c) _ (c ∷ []) other, other) refl)
    (cases_Bool (misleads_in_json c))

pub plain_on_terminal : (cs : List ℕ) → list_any misleads_in_json (flat_map terminal_char cs) ≡ false
plain_on_terminal [] = refl
plain_on_terminal (c ∷ cs) =
    list_any-append misleads_in_json (terminal_char c) (flat_map terminal_char cs) ∙ rw (plain_char c, plain_on_terminal cs) refl

same_chars : (cs : List ℕ) → list_any misleads_in_json cs ≡ false → flat_map terminal_char cs ≡ cs
same_chars [] none = refl
same_chars (c ∷ cs) none =
    let first : misleads_in_json c ≡ false = search (rules, tests) in
    let others : list_any misleads_in_json cs ≡ false = search (rules, tests) in
    rw (cond-false (misleads_in_json c) _ (c ∷ []) first, same_chars cs others) refl

pub same_on_terminal : (text : List ℕ) → IsUtf8 text → list_any misleads_in_json (chars text) ≡ false → on_terminal text ≡ text
same_on_terminal text (cs, both) none =
    let found : chars text ≡ cs = ap chars (sym both.1) ∙ chars-encodes cs both.0 in
    ap encode_utf8_all (same_chars (chars text) none ∙ found) ∙ both.1

-- the text of a character's escape is its digits
pub escape_of_misleading : (c : ℕ) → misleads_in_json c ≡ true → encode_utf8_all (json_escape c) ≡ json_escape c
unfolding lib.Utf8.encode
escape_of_misleading c mislead =
    let same = of_low_or_mark (λ n. bytes_eq (encode_utf8_all (json_escape n)) (json_escape n)) true refl refl refl c (low_or_mark c mislead) in
    (bytes_eq-Decides _ _).0 same

-- the text of one more character comes last
pub terminal_more : (cs : List ℕ) (c : ℕ)
    → encode_utf8_all (flat_map terminal_char (cs ++ c ∷ [])) ≡ encode_utf8_all (flat_map terminal_char cs) ++ encode_utf8_all (terminal_char c)
terminal_more cs c = ap encode_utf8_all (sym (flat_map_more terminal_char [] cs c)) ∙ encodes-append (flat_map terminal_char cs) (terminal_char c)
