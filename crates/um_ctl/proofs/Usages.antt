-- The usage of a verb, written piece by piece.
use Rattle.std.proofs.Common.{◌≡◌, ℕ, List, ◌++◌, ap, ◌∙◌}
use Rattle.std.proofs.lemmas.List.{append_assoc}

-- five pieces, one after the other
pub five_pieces : (old a b c d e t u v w x : List ℕ) → t ≡ old ++ a → u ≡ t ++ b → v ≡ u ++ c → w ≡ v ++ d → x ≡ w ++ e
    → x ≡ old ++ (a ++ (b ++ (c ++ (d ++ e))))
five_pieces old a b c d e t u v w x first second third fourth fifth =
    fifth ∙ ap (λ text. text ++ e) (fourth ∙ ap (λ text. text ++ d) (third ∙ ap (λ text. text ++ c) (second ∙ ap (λ text. text ++ b) first)))
    ∙ append_assoc (((old ++ a) ++ b) ++ c) d e ∙ append_assoc ((old ++ a) ++ b) c (d ++ e) ∙ append_assoc (old ++ a) b (c ++ (d ++ e))
    ∙ append_assoc old a (b ++ (c ++ (d ++ e)))
