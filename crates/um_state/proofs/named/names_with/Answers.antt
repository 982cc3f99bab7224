use Rattle.std.proofs.Common.{◌∙◌, ◌++◌, ◌∷◌, [], ap}
use Rattle.std.specs.List.{list_any}
use Rattle.std.specs.Str.{bytes_eq}
use Rattle.um_state.proofs.Results.{if_ok_more}
use Rattle.um_state.proofs.SameLaws.{apart_with}
use Rattle.um_state.proofs.named.names_with.Goals as goal

pub returns : goal.returns
returns c =
    let all = c.deref.ensures.value ∙ (c.in_ok-push.ensures.items ∙ (λ i. c.in_ok-listed.ensures i ++ c.in_ok-copy.ensures i ∷ [])) in
    if_ok_more c.of.result (λ more whole. apart_with c.args.names.now more c.args.unit.now (λ x. whole x ∙ ap (list_any (bytes_eq x)) all)) c.of.ensures.whole
