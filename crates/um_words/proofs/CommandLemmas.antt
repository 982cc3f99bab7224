-- A command, its signs cut off.
use Rattle.std.proofs.Common.{◌≡◌, ◌<◌, ℕ, Bool, not, eqb, List, [], ◌∷◌, length, get_or, drop, map, ap, ◌∙◌, arith}
use Rattle.std.specs.Prelude.{string_bytes, String, slice_set}
use Rattle.std.specs.declared.alloc.Global.{Global}
use Rattle.std.specs.List.{list_any}
use Rattle.um_model.specs.Commands as pure
use Rattle.um_model.specs.Commands.{command_of}
use Rattle.um_words.specs.Commands.{signs_of}

-- the words of a command, the first without its signs, and the meaning of the signs
pub command_cut : (items : List (String Global)) (first word : String Global) (text signs rest : List ℕ) (ignores substitutes : Bool) → 0 < length items
    → first ≡ get_or items 0 first → text ≡ string_bytes first → signs ≡ signs_of text → rest ≡ drop (length signs) text → string_bytes word ≡ rest
    → ignores ≡ list_any (λ b. eqb b 45) signs → substitutes ≡ not (list_any (λ b. eqb b 58) signs)
    → ◌≡◌ {A = List pure.Command} (record { words = map string_bytes (slice_set items 0 word); ignores_failure = ignores; substitutes = substitutes } ∷ []) (command_of (map string_bytes items))
command_cut [] first word text signs rest ignores substitutes some first_is text_is signs_is rest_is word_is dash colon = absurd (omega arith)
command_cut (x ∷ xs) first word text signs rest ignores substitutes some first_is text_is signs_is rest_is word_is dash colon =
    let made : List ℕ → Bool → Bool → List pure.Command = λ w i s. record { words = w ∷ map string_bytes xs; ignores_failure = i; substitutes = s } ∷ [] in
    ap (λ w. made w ignores substitutes) (word_is ∙ rest_is) ∙ ap (λ i. made (drop (length signs) text) i substitutes) dash
    ∙ ap (λ s. made (drop (length signs) text) (list_any (λ b. eqb b 45) signs) s) colon
    ∙ ap (λ s. made (drop (length s) text) (list_any (λ b. eqb b 45) s) (not (list_any (λ b. eqb b 58) s))) signs_is
    ∙ ap (λ t. command_of (t ∷ map string_bytes xs)) (text_is ∙ ap string_bytes first_is)
