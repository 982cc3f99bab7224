use Rattle.std.proofs.Common.{◌∙◌, [], ap, sym}
use Rattle.std.proofs.lemmas.Option.{get_or_from_slice_get}
use Rattle.um_model.proofs.SameUnits.{unit_decides}
use Rattle.um_model.specs.Service.{state_of_unit}
use Rattle.um_state.proofs.rows.is_told.Goals as goal

pub returns : goal.returns
returns c =
    let d = unit_decides c.args.row.now c.get.result in
    let named = get_or_from_slice_get c.args.names.now c.args.i c.in-Some.name.now [] (sym c.in-Some.ensures.name) in
    let stands = c.get.ensures.state ∙ ap (state_of_unit c.args.held.now.held) (sym named) in
    (λ is. d.0 (sym c.eq.ensures ∙ is) ∙ stands, λ same. c.eq.ensures ∙ d.1 (same ∙ sym stands))
