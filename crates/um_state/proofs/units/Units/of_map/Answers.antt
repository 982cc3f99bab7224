use Rattle.std.proofs.Common.{◌∙◌, ◌++◌, ap}
use Rattle.std.specs.FinMap as map
use Rattle.um_laws.proofs.NameMaps.{seen}
use Rattle.um_model.specs.Service.{dead_unit}
use Rattle.um_state.proofs.Results.{if_ok_more}
use Rattle.um_state.proofs.SameLaws.{unheld}
use Rattle.um_state.proofs.units.Units.of_map.Goals as goal

pub returns : goal.returns
returns c =
    let m = seen c.args.entries.now in
    let are = c.deref.ensures.value ∙ (c.in_ok-push_keys.ensures ∙ ap (λ ns. ns ++ map.keys m) c.new-keys.ensures.items) in
    if_ok_more c.over.result (λ made held tidy. held tidy (unheld dead_unit m c.in_ok-names.names c.deref.result.now c.in_ok-names.ensures.whole are)) c.over.ensures.held
