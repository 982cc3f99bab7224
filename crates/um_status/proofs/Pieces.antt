-- Texts written piece by piece.
use Rattle.std.proofs.Common.{◌≡◌, ℕ, List, ◌++◌, ap, ◌∙◌}
use Rattle.std.proofs.lemmas.List.{append_assoc}

-- a piece, and what follows it
pub piece : (old a new more all : List ℕ) → new ≡ old ++ a → all ≡ new ++ more → all ≡ old ++ (a ++ more)
piece old a new more all first rest = rest ∙ ap (λ text. text ++ more) first ∙ append_assoc old a more

-- the same, for a piece that is written of a text equal to another
pub piece_of : (put : List ℕ → List ℕ) (old cell shown new more all : List ℕ) → shown ≡ cell → new ≡ old ++ put shown → all ≡ new ++ more
    → all ≡ old ++ (put cell ++ more)
piece_of put old cell shown new more all same first rest = piece old (put cell) new more all (first ∙ ap (λ t. old ++ put t) same) rest
