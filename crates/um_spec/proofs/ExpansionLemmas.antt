-- A text that is expanded from `%` to `%`.
use Rattle.std.proofs.Common.{◌≡◌, ◌≢◌, ◌<◌, ℕ, ◌-◌, List, [], ◌∷◌, ◌++◌, Option, Some, None, length, get_or, drop, append-nil, sym, ap, ◌∙◌}
use Rattle.um_model.specs.Pieces.{Unreadable, Gives}
use Rattle.um_model.specs.Specifiers.{percent_front, specifier_front}
use Rattle.um_model.proofs.PiecesLaws.{prefixed, reading, prefixed-prefixed, reading_none, reading-append, reading_more_after}
use Rattle.um_model.proofs.SpecifiersLaws.{plain_front}

-- the text so far, followed by the reading of the rest
abbrev told : List ℕ → Option (List ℕ) → List ℕ → List ℕ → Option (List ℕ)
told name unescaped done rest = prefixed done (reading (specifier_front name unescaped) rest)

-- one more specifier
pub told_more : (name : List ℕ) (unescaped : Option (List ℕ)) (done rest before after gives later left : List ℕ) (n : ℕ) (whole : Option (List ℕ))
    → (rest ≡ before ++ (37 ∷ after)) × ((i : ℕ) → i < length before → get_or before i 0 ≢ 37) → percent_front name unescaped after ≡ Gives gives n
    → later ≡ (done ++ before) ++ gives → left ≡ drop (n - 1) after
    → told name unescaped done rest ≡ whole → told name unescaped later left ≡ whole
told_more name unescaped done rest before after gives later left n whole cut front then is so_far =
    ap (λ x. told name unescaped x left) then
    ∙ ap (told name unescaped ((done ++ before) ++ gives)) is
    ∙ sym (reading_more_after (specifier_front name unescaped) 37 n before after gives done (λ i below later. plain_front name unescaped (get_or before i 0) later (cut.1 i below)) front)
    ∙ ap (told name unescaped done) (sym cut.0)
    ∙ so_far

-- one that can't be read
pub told_none : (name : List ℕ) (unescaped : Option (List ℕ)) (done rest before after : List ℕ)
    → (rest ≡ before ++ (37 ∷ after)) × ((i : ℕ) → i < length before → get_or before i 0 ≢ 37) → percent_front name unescaped after ≡ Unreadable
    → told name unescaped done rest ≡ None
told_none name unescaped done rest before after cut front =
    let F = specifier_front name unescaped in
    ap (told name unescaped done) cut.0
    ∙ ap (prefixed done) (reading-append F before (37 ∷ after) (λ i below later. plain_front name unescaped (get_or before i 0) later (cut.1 i below)))
    ∙ prefixed-prefixed done before (reading F (37 ∷ after))
    ∙ reading_none F 37 after (done ++ before) front

-- no `%` is left
pub told_all : (name : List ℕ) (unescaped : Option (List ℕ)) (done rest : List ℕ) → ((i : ℕ) → i < length rest → get_or rest i 0 ≢ 37)
    → told name unescaped done rest ≡ Some (done ++ rest)
told_all name unescaped done rest apart =
    let F = specifier_front name unescaped in
    ap (told name unescaped done) (sym (append-nil rest))
    ∙ ap (prefixed done) (reading-append F rest [] (λ i below later. plain_front name unescaped (get_or rest i 0) later (apart i below)))
    ∙ ap (λ x. Some (done ++ x)) (append-nil rest)
