use Rattle.std.proofs.Common.{[], ◌∷◌, ◌++◌, map, string_bytes, sym, ap, ◌∙◌}
use Rattle.std.proofs.lemmas.List.{map-append}
use Rattle.um_words.specs.Substituted.{becomes_by}
use Rattle.um_words.proofs.CountLemmas.{filled_is}
use Rattle.um_words.proofs.substitution.push_substituted.Goals as goal

pub returns-in_ok-push-in-None : goal.returns-in_ok-push-in-None
returns-in_ok-push-in-None c = λ environment holds.
    let word = c.args.word.now in
    let before = c.args.words.now.items in
    let text = c.in_ok-filled-in-None.field-0 in
    ap (map string_bytes) c.in_ok-push-in-None.ensures.items ∙ map-append string_bytes before (text ∷ [])
    ∙ ap (λ t. map string_bytes before ++ t ∷ []) (sym (filled_is environment word (string_bytes text) (c.in_ok-filled-in-None.ensures environment holds)))
    ∙ ap (λ name. map string_bytes before ++ becomes_by environment word name) c.in-None.ensures
