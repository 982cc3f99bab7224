-- The front of bytes, from the code's reading of it.
use Rattle.std.proofs.Common.{◌≡◌, ◌⊎◌, inr, ℕ, ◌+◌, ◌-◌, ◌<◌, ◌≤◌, List, [], ◌∷◌, ◌++◌, length, take, drop, refl, sym, ap, subst, ◌∙◌, length-drop, take-append-drop, arith}
use Rattle.std.proofs.lemmas.List.{length-take-le}
use Rattle.std.proofs.Math.Seq.{drop-append-add}
use Rattle.byteorder.specs.Endian.{big_number}
use Rattle.um_model.specs.Frames.{frame_limit, BeginsWith, IsPartial, in_body, BeginsTooLong}

-- the length in front is that of the first four bytes
same_number : (xs : List ℕ) → 4 ≤ length xs → big_number 4 (take 4 xs) ≡ big_number 4 xs
same_number [] h = absurd (omega arith)
same_number (a ∷ []) h = absurd (omega arith)
same_number (a ∷ b ∷ []) h = absurd (omega arith)
same_number (a ∷ b ∷ c ∷ []) h = absurd (omega arith)
same_number (a ∷ b ∷ c ∷ d ∷ xs) h = refl

pub long_front : (xs : List ℕ) (size : ℕ) → 4 ≤ length xs → size ≡ big_number 4 xs → frame_limit < size → BeginsTooLong xs
long_front xs size four is long = record {
  header = take 4 xs;
  rest = drop 4 xs;
  four = length-take-le 4 xs four;
  long = subst (λ n. frame_limit < n) (is ∙ sym (same_number xs four)) long;
  whole = sym (take-append-drop 4 xs);
}

pub partial_front : (xs : List ℕ) (size : ℕ) → 4 ≤ length xs → size ≡ big_number 4 xs → size ≤ frame_limit → length xs - 4 < size → (xs ≡ []) ⊎ IsPartial xs
partial_front xs size four is low few =
    let number : size ≡ big_number 4 (take 4 xs) = is ∙ sym (same_number xs four) in
    inr (in_body (take 4 xs) (drop 4 xs) (length-take-le 4 xs four) (subst (λ n. n ≤ frame_limit) number low)
    (subst (λ n. length (drop 4 xs) < n) number (subst (λ n. n < size) (sym (length-drop 4 xs)) few)) (sym (take-append-drop 4 xs)))

pub whole_front : (xs : List ℕ) (size : ℕ) → 4 ≤ length xs → size ≡ big_number 4 xs → size ≤ frame_limit → size ≤ length xs - 4
    → BeginsWith xs (take size (drop 4 xs)) (drop (size + 4) xs)
whole_front xs size four is low many =
    let head : length (take 4 xs) ≡ 4 = length-take-le 4 xs four in
    let len : length (take size (drop 4 xs)) ≡ size = length-take-le size (drop 4 xs) (subst (λ n. size ≤ n) (sym (length-drop 4 xs)) many) in
    let places : size + 4 ≡ length (take 4 xs) + size = omega arith in
    let seam : drop (size + 4) xs ≡ drop size (drop 4 xs) =
    ap (λ l. drop (size + 4) l) (sym (take-append-drop 4 xs)) ∙ ap (λ n. drop n (take 4 xs ++ drop 4 xs)) places ∙ drop-append-add (take 4 xs) (drop 4 xs) size in
    record {
      header = take 4 xs;
      four = head;
      length_is = same_number xs four ∙ sym is ∙ sym len;
      short = subst (λ n. n ≤ frame_limit) (sym len) low;
      whole = sym (take-append-drop 4 xs) ∙ ap (λ l. take 4 xs ++ l) (sym (take-append-drop size (drop 4 xs)) ∙ ap (λ l. take size (drop 4 xs) ++ l) (sym seam));
    }
