-- Shown text holds no character that misleads.
use Rattle.std.proofs.Common.{◌≡◌, ◌<◌, ◌≤◌, ◌/◌, ◌%◌, ◌&&◌, ℕ, zero, suc, true, false, Option, Some, None, List, [], ◌∷◌, ◌++◌, drop, take, length, nat_lt, flat_map, encode_utf8, encode_utf8_all, refl, sym, ap, subst, ◌∙◌, arith, rules, tests, length-append, length-drop, take-append-drop, append-nil, ⊎_elim}
use Rattle.std.specs.Char.{digit_char}
use Rattle.std.specs.List.{list_all, list_any}
use Rattle.std.specs.Str.{IsUtf8, chars}
use Rattle.std.proofs.Math.Utf8.{scalar, scalars}
use Rattle.std.proofs.lemmas.Bool.{cases_Bool, cond-false, cond-true}
use Rattle.std.proofs.lemmas.List.{take_at, drop_at}
use Rattle.std.proofs.lemmas.List.Folds.{list_any-append, list_all-append}
use Rattle.std.proofs.lemmas.Str.{chars-encodes, encode_ascii, encodes-append, len_utf8_bounds, length-encode}
use Rattle.bstr.specs.Utf8.{decoded}
use Rattle.bstr.proofs.lemmas.EncodeLemmas.{decoded-encode}
use Rattle.bstr.proofs.lemmas.PieceLemmas.{piece-bounds}
use Rattle.bstr.proofs.lemmas.SoundLemmas.{SpellsChar-decoded}
use Rattle.um_model.proofs.EntriesLaws.{both_true, left_true, right_true}
use Rattle.um_model.specs.Names.{byte_escape}
use Rattle.um_output.specs.Showing.{misleads, piece_shown, shown}
use Rattle.um_output.proofs.ShownLaws.{shown_none, shown_step}

-- the bytes are a text of which no character misleads
pub record IsPlain (bytes : List ℕ) : Type 0 where
  pub characters : List ℕ
  pub scalar : scalars characters ≡ true
  pub plain : list_any misleads characters ≡ false
  pub text : encode_utf8_all characters ≡ bytes

scalars_both : (cs ds : List ℕ) → scalars cs ≡ true → scalars ds ≡ true → scalars (cs ++ ds) ≡ true
scalars_both [] ds one other = other
scalars_both (c ∷ cs) ds one other =
    both_true (scalar c) (scalars (cs ++ ds)) (left_true (scalar c) (scalars cs) one) (scalars_both cs ds (right_true (scalar c) (scalars cs) one) other)

none_plain : IsPlain []
none_plain = record { characters = []; scalar = refl; plain = refl; text = refl }

two_plain : (xs ys : List ℕ) → IsPlain xs → IsPlain ys → IsPlain (xs ++ ys)
two_plain xs ys one other = record {
  characters = one.characters ++ other.characters;
  scalar = scalars_both one.characters other.characters one.scalar other.scalar;
  plain = list_any-append misleads one.characters other.characters ∙ rw (one.plain, other.plain) refl;
  text = encodes-append one.characters other.characters ∙ rw (one.text, other.text) refl;
}

-- a character of ASCII that doesn't mislead
low_plain : (c : ℕ) → 32 ≤ c → c < 127 → IsPlain (c ∷ [])
low_plain c some low = record {
  characters = c ∷ [];
  scalar = search (rules, tests, arith);
  plain = search (rules, tests, arith);
  text = ap (λ xs. xs ++ []) (encode_ascii c (omega arith));
}

digit_plain : (n : ℕ) → n < 16 → IsPlain (digit_char n ∷ [])
digit_plain n low = low_plain (digit_char n) (search (rules, tests, arith)) (search (rules, tests, arith))

escape_plain : (b : ℕ) → b < 256 → IsPlain (byte_escape b)
escape_plain b low =
    two_plain (92 ∷ []) _ (low_plain 92 (omega arith) (omega arith))
    (two_plain (120 ∷ []) _ (low_plain 120 (omega arith) (omega arith)) (two_plain (digit_char (b / 16) ∷ []) _ (digit_plain (b / 16) (omega arith)) (digit_plain (b % 16) (omega arith))))

escapes_plain : (bytes : List ℕ) → list_all (λ b. nat_lt b 256) bytes ≡ true → IsPlain (flat_map byte_escape bytes)
escapes_plain [] low = none_plain
escapes_plain (b ∷ bytes) low =
    let first : b < 256 = search (rules, tests, arith) in
    two_plain (byte_escape b) (flat_map byte_escape bytes) (escape_plain b first) (escapes_plain bytes (right_true (nat_lt b 256) (list_all (λ x. nat_lt x 256) bytes) low))

-- a piece that is this character, or none
piece_plain : (char : Option ℕ) (bytes : List ℕ) → list_all (λ b. nat_lt b 256) bytes ≡ true
    → ((c : ℕ) → char ≡ Some c → (scalar c ≡ true) × (bytes ≡ encode_utf8 c)) → IsPlain (piece_shown char bytes)
piece_plain None bytes low spells = escapes_plain bytes low
piece_plain (Some c) bytes low spells =
    ⊎_elim
    (λ yes. subst IsPlain (sym (cond-true (misleads c) (flat_map byte_escape bytes) bytes yes)) (escapes_plain bytes low))
    (λ not. let of = spells c refl in
    let whole : encode_utf8_all (c ∷ []) ≡ bytes = append-nil (encode_utf8 c) ∙ sym of.1 in
    let here : IsPlain bytes = record { characters = c ∷ []; scalar = both_true (scalar c) true of.0 refl; plain = search (rules, tests); text = whole } in
    subst IsPlain (sym (cond-false (misleads c) (flat_map byte_escape bytes) bytes not)) here)
    (cases_Bool (misleads c))

plain_by : (fuel : ℕ) (bytes : List ℕ) → length bytes ≤ fuel → list_all (λ b. nat_lt b 256) bytes ≡ true → IsPlain (shown bytes)
plain_by fuel [] few low = subst IsPlain (sym shown_none) none_plain
plain_by zero (b ∷ bytes) few low = absurd (omega arith)
plain_by (suc fuel) (b ∷ bytes) few low =
    let all = b ∷ bytes in
    let size = (decoded all).size in
    let parts : (list_all (λ x. nat_lt x 256) (take size all) && list_all (λ x. nat_lt x 256) (drop size all)) ≡ true =
    sym (list_all-append (λ x. nat_lt x 256) (take size all) (drop size all)) ∙ ap (list_all (λ x. nat_lt x 256)) (take-append-drop size all) ∙ low in
    let shorter : length (drop size all) ≤ fuel = omega (arith, (piece-bounds all (omega arith)).0, length-drop size all) in
    let first = piece_plain (decoded all).char (take size all) (left_true _ _ parts)
    (λ c is. let spelled = SpellsChar-decoded all c is in
    (spelled.scalar, ap (take size) spelled.bytes ∙ take_at (encode_utf8 c) (drop size all) size spelled.width)) in
    subst IsPlain (sym (shown_step all (omega arith))) (two_plain _ _ first (plain_by fuel (drop size all) shorter (right_true _ _ parts)))

pub is_plain : (bytes : List ℕ) → list_all (λ b. nat_lt b 256) bytes ≡ true → IsPlain (shown bytes)
is_plain bytes low = plain_by (length bytes) bytes (omega arith) low

pub is_text : (bytes : List ℕ) → list_all (λ b. nat_lt b 256) bytes ≡ true → IsUtf8 (shown bytes)
is_text bytes low = let it = is_plain bytes low in (it.characters, (it.scalar, it.text))

pub misleads_nobody : (bytes : List ℕ) → list_all (λ b. nat_lt b 256) bytes ≡ true → list_any misleads (chars (shown bytes)) ≡ false
misleads_nobody bytes low =
    let it = is_plain bytes low in
    let found : chars (shown bytes) ≡ it.characters = ap chars (sym it.text) ∙ chars-encodes it.characters it.scalar in ap (list_any misleads) found ∙ it.plain

-- a text of which no character misleads, character by character
same_chars : (cs : List ℕ) → scalars cs ≡ true → list_any misleads cs ≡ false → shown (encode_utf8_all cs) ≡ encode_utf8_all cs
same_chars [] are none = shown_none
same_chars (c ∷ cs) are none =
    let first : misleads c ≡ false = search (rules, tests) in
    let others : list_any misleads cs ≡ false = search (rules, tests) in
    let rest = encode_utf8_all cs in
    let all = encode_utf8 c ++ rest in
    let found = decoded-encode c rest (left_true (scalar c) (scalars cs) are) in
    let size : (decoded all).size ≡ length (encode_utf8 c) = ap (λ d. d.size) found in
    let char : (decoded all).char ≡ Some c = ap (λ d. d.char) found in
    let some : 0 < length all = omega (arith, length-append (encode_utf8 c) rest, length-encode c, (len_utf8_bounds c).0) in
    let at_first : piece_shown (decoded all).char (take (decoded all).size all) ≡ encode_utf8 c =
    ap (λ o. piece_shown o (take (decoded all).size all)) char ∙ ap (λ n. piece_shown (Some c) (take n all)) size
    ∙ ap (piece_shown (Some c)) (take_at (encode_utf8 c) rest (length (encode_utf8 c)) refl) ∙ cond-false (misleads c) (flat_map byte_escape (encode_utf8 c)) (encode_utf8 c) first in
    let at_rest : shown (drop (decoded all).size all) ≡ rest =
    ap (λ n. shown (drop n all)) size ∙ ap shown (drop_at (encode_utf8 c) rest (length (encode_utf8 c)) refl)
    ∙ same_chars cs (right_true (scalar c) (scalars cs) are) others in
    let step = shown_step all some in step ∙ ap (λ xs. xs ++ shown (drop (decoded all).size all)) at_first ∙ ap (λ ys. encode_utf8 c ++ ys) at_rest

pub same_text : (text : List ℕ) → IsUtf8 text → list_any misleads (chars text) ≡ false → shown text ≡ text
same_text text (cs, both) none =
    let found : chars text ≡ cs = ap chars (sym both.1) ∙ chars-encodes cs both.0 in
    let plain : list_any misleads cs ≡ false = ap (list_any misleads) (sym found) ∙ none in
    ap shown (sym both.1) ∙ same_chars cs both.0 plain ∙ both.1
