-- Entries that stand under their own numbers, each number once, are a row in which each unit stands once.
use Rattle.std.proofs.Common.{◌≡◌, ◌∙◌, ◌<◌, ℕ, zero, suc, [], ◌∷◌, length, get_or, All, sym, arith, nat_eq}
use Rattle.std.specs.List.{IsDistinct}
use Rattle.std.specs.Map.{keys_of, values_of}
use Rattle.std.proofs.lemmas.Bool.Decides.{Decides-eqb}
use Rattle.std.proofs.lemmas.Map.Entries.{length-keys_of, length-values_of}
use Rattle.std.proofs.lemmas.Map.Made.{AllPairs-from_IsDistinct}
use Rattle.um_graph.specs.Graph.{AreOnce}
use Rattle.um_graph.specs.Rows.{Entries}
use Rattle.um_graph.specs.declared.row.Neighbour.{Neighbour}

-- the unit of a neighbour is the number under which it stands
pub number_at : (es : Entries) → All (λ e. e.0 ≡ e.1.unit) es → (i : ℕ) (n : Neighbour) → i < length es → get_or (keys_of es) i 0 ≡ (get_or (values_of es) i n).unit
number_at [] keyed i n h = absurd (omega arith)
number_at (e ∷ es) keyed zero n h = keyed 0 e (omega arith)
number_at (e ∷ es) keyed (suc i) n h = number_at es (λ k d l. keyed (suc k) d (omega arith)) i n (omega arith)

pub once_of : (es : Entries) → All (λ e. e.0 ≡ e.1.unit) es → IsDistinct nat_eq (keys_of es) → AreOnce (values_of es)
once_of es keyed distinct i j n h l e =
    let within : j < length es = omega (arith, length-values_of es) in
    AllPairs-from_IsDistinct Decides-eqb (keys_of es) distinct i j 0 h (omega (arith, length-keys_of es))
    (number_at es keyed i n (omega arith) ∙ (e ∙ sym (number_at es keyed j n within)))
