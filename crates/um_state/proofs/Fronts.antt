-- The front and the rest of a list by a pattern; and the front of bytes to which more are appended.
use Rattle.std.proofs.Common.{◌≡◌, ℕ, ◌≤◌, ◌-◌, List, [], ◌∷◌, ◌++◌, length, take, drop, slice_index, arith, append_assoc, refl, sym, ap, ◌∙◌}
use Rattle.std.proofs.lemmas.List.{take_all}
use Rattle.um_model.specs.Bytes.{IsInFront}

-- the rest after the first one
pub first_and_rest : (ns : List ℕ) → 1 ≤ length ns → ns ≡ slice_index ns 0 ∷ take (length ns - 1) (drop 1 ns)
first_and_rest [] h = absurd (omega (arith, h))
first_and_rest (n ∷ ns) h =
    let low : length ns ≤ length (n ∷ ns) - 1 = omega arith in
    ap (λ l. n ∷ l) (sym (take_all (length (n ∷ ns) - 1) ns low))

-- the same without a cut
pub behind_one : (ns : List ℕ) → 1 ≤ length ns → take (length ns - 1) (drop 1 ns) ≡ drop 1 ns
behind_one [] h = absurd (omega (arith, h))
behind_one (n ∷ ns) h =
    let low : length ns ≤ length (n ∷ ns) - 1 = omega arith in
    take_all (length (n ∷ ns) - 1) ns low

pub two_first : (bytes : List ℕ) → 2 ≤ length bytes → bytes ≡ slice_index bytes 0 ∷ slice_index bytes 1 ∷ drop 2 bytes
two_first [] h = absurd (omega (arith, h))
two_first (a ∷ []) h = absurd (omega (arith, h))
two_first (a ∷ b ∷ rest) h = refl

-- the rest after two bytes
pub behind_two : (bytes : List ℕ) → 2 ≤ length bytes → take (length bytes - 2) (drop 2 bytes) ≡ drop 2 bytes
behind_two [] h = absurd (omega (arith, h))
behind_two (a ∷ []) h = absurd (omega (arith, h))
behind_two (a ∷ b ∷ rest) h =
    let low : length rest ≤ length (a ∷ b ∷ rest) - 2 = omega arith in
    take_all (length (a ∷ b ∷ rest) - 2) rest low

-- two lists, appended one after the other
pub both_put : (old a b one both : List ℕ) → one ≡ old ++ a → both ≡ one ++ b → both ≡ old ++ (a ++ b)
both_put old a b one both first second = second ∙ (ap (λ l. l ++ b) first ∙ append_assoc old a b)

-- the old bytes stand in front of the appended ones
pub in_front : (old more new : List ℕ) → new ≡ old ++ more → IsInFront old new
in_front old more new put = record { behind = more; parts = put }

-- and still do when more is appended
pub in_front_of_more : (old one all : List ℕ) → IsInFront old one → IsInFront one all → IsInFront old all
in_front_of_more old one all first second = record {
  behind = first.behind ++ second.behind;
  parts = both_put old first.behind second.behind one all first.parts second.parts;
}
