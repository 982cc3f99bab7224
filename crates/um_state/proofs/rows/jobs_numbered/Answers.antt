use Rattle.std.proofs.Common.{◌∙◌, [], sym, ap}
use Rattle.std.proofs.lemmas.Option.{get_or_from_slice_get}
use Rattle.um_laws.proofs.NameMaps.{seen}
use Rattle.um_model.specs.Jobs.{jobs_of_unit}
use Rattle.um_state.proofs.rows.jobs_numbered.Goals as goal

pub returns : goal.returns
returns c =
    let named = get_or_from_slice_get c.args.names.now c.args.i c.in-Some.name.now [] (sym c.in-Some.ensures.name) in
    c.jobs_in.ensures ∙ ap (jobs_of_unit (seen c.args.entries.now)) (sym named)
