use Rattle.std.proofs.Common.{◌≡◌, ◌∙◌, ◌++◌, ◌∷◌, [], if◌then◌else◌, sym, ap}
use Rattle.std.proofs.lemmas.Option.{get_or_from_slice_get}
use Rattle.um_name.specs.Names.{name_at}
use Rattle.um_state.proofs.rows.push_if.Goals as goal

pub returns : goal.returns
returns c =
    let noted = c.args.noted.now.items in
    let name = name_at c.args.names.now c.args.i in
    let named = get_or_from_slice_get c.args.names.now c.args.i c.in-Some.name.now [] (sym c.in-Some.ensures.name) in
    let copied : c.in_ok-copy-in-Some.field-0 ≡ name = c.in_ok-copy-in-Some.ensures ∙ sym named in
    c.in_ok-push-in-Some.ensures.items
    ∙ (ap (λ n. noted ++ n ∷ []) copied ∙ ap (λ b. noted ++ (if b then name ∷ [] else [])) (sym c.if-not-is_held.false))
