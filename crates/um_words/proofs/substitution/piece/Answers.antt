use Rattle.std.proofs.Common.{◌≡◌, ◌+◌, ◌-◌, length, None, cond, [], ◌∷◌, sym, ap, ◌∙◌, lit<, arith}
use Rattle.std.proofs.lemmas.Str.Pattern.{strip_prefix_char}
use Rattle.um_model.specs.Pieces.{Gives}
use Rattle.um_model.specs.Substitution.{braced_name}
use Rattle.um_model.proofs.Forms.{variable_front}
use Rattle.um_words.proofs.VariableLemmas.{not_first}
use Rattle.um_words.proofs.substitution.piece.Goals as goal

pub returns-in-None-clause-front : goal.returns-in-None-clause-front
returns-in-None-clause-front c = λ environment holds.
    let behind = c.args.behind.now in
    let one : 1 ≡ length behind - length behind + 1 = omega arith in
    ap (λ t. cond t (Gives (36 ∷ []) 2) (variable_front environment (braced_name behind)))
    (not_first 36 behind (strip_prefix_char 36 behind None c.in_default.ensures.cases (lit< tt)))
    ∙ ap (variable_front environment) (sym c.in-None.ensures.name)
    ∙ ap (Gives (36 ∷ [])) one
