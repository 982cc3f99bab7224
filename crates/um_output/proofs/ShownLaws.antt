-- Bytes shown piece by piece.
use Rattle.std.proofs.Common.{◌≡◌, ◌<◌, ◌≤◌, ℕ, List, [], ◌++◌, Option, drop, take, length, ap, sym, subst, ◌∙◌, append_assoc, append-nil}
use Rattle.bstr.specs.Utf8.{decoded}
use Rattle.bstr.proofs.lemmas.PieceLemmas.{pieces-nil, pieces-step, piece-bounds, size-within as piece-within}
use Rattle.um_output.specs.Showing.{piece_shown, shown, shown_by}

-- no bytes are shown as no text
pub shown_none : shown [] ≡ []
unfolding shown_by
shown_none = ap (λ ps. shown_by ps []) pieces-nil

-- the first piece, and then the bytes after it
pub shown_step : (bytes : List ℕ) → 0 < length bytes
    → shown bytes ≡ piece_shown (decoded bytes).char (take (decoded bytes).size bytes) ++ shown (drop (decoded bytes).size bytes)
unfolding shown_by
shown_step bytes some = ap (λ ps. shown_by ps bytes) (pieces-step bytes some)

-- a piece has a byte at least, and no more than there are
pub size_within : (bytes : List ℕ) (size : ℕ) → size ≡ (decoded bytes).size → size ≤ length bytes
size_within bytes size is = subst (λ n. n ≤ length bytes) (sym is) (piece-within bytes)

pub size_some : (bytes : List ℕ) (size : ℕ) → size ≡ (decoded bytes).size → 0 < length bytes → 1 ≤ size
size_some bytes size is some = subst (λ n. 1 ≤ n) (sym is) (piece-bounds bytes some).0

-- one more piece is shown
pub shown_more : (text bytes all : List ℕ) (char : Option ℕ) (size : ℕ) → char ≡ (decoded bytes).char → size ≡ (decoded bytes).size → 0 < length bytes
    → text ++ shown bytes ≡ all → (text ++ piece_shown char (take size bytes)) ++ shown (drop size bytes) ≡ all
shown_more text bytes all char size is-char is-size some before = rw (is-char, is-size, append_assoc) (ap (λ x. text ++ x) (sym (shown_step bytes some)) ∙ before)

-- if no bytes are left, all is shown
pub shown_last : (text bytes all : List ℕ) → bytes ≡ [] → text ++ shown bytes ≡ all → text ≡ all
shown_last text bytes all none whole = sym (append-nil text) ∙ ap (λ x. text ++ x) (sym shown_none ∙ ap shown (sym none)) ∙ whole
