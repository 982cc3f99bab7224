use Rattle.std.proofs.Common.{◌≡◌, ◌∙◌, ◌++◌, ◌∷◌, [], get_or, arith, sym, ap}
use Rattle.std.proofs.lemmas.List.{take_more}
use Rattle.std.proofs.lemmas.Option.{get_or_from_slice_get}
use Rattle.um_state.proofs.named.listed.Goals as goal

pub loop-i-preserved : goal.loop-i-preserved
loop-i-preserved c =
    let names = c.args.names.now in
    let i = c.loop-i.i in
    let named = get_or_from_slice_get names i c.in-Some.name.now [] (sym c.in-Some.ensures.name) in
    c.in_ok-push-in-Some.ensures.items
    ∙ ((λ k. c.loop-i.invariant k ++ (c.in_ok-copy-in-Some.ensures ∙ sym named) k ∷ []) ∙ sym (take_more names i [] (omega arith)))
