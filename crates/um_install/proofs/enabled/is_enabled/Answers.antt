use Rattle.std.proofs.Common.{option_map, ap, sym, ◌∙◌}
use Rattle.std.specs.FinMap as map
use Rattle.um_tree.proofs.TextMaps.{get-map_of}
use Rattle.um_unit.specs.View.{loading_of, tree_read}
use Rattle.um_install.specs.View.{units_of}
use Rattle.um_install.proofs.DisableLaws.{enabled_as, asked_there}
use Rattle.um_install.proofs.enabled.is_enabled.Goals as goal

pub returns-in-Some : goal.returns-in-Some
returns-in-Some c =
    let units = units_of c.in_ok-units.units.entries in
    enabled_as (tree_read c.args.reading) c.args.unit.now units c.in_ok-units.ensures c.is_linked.result (loading_of c.in-Some.loading.now) c.enabling_of.result c.is_linked.ensures
    (ap (map.get units) (sym c.as_str.ensures.value) ∙ get-map_of loading_of c.in_ok-units.units c.as_str.result.now ∙ sym (ap (option_map loading_of) c.in-Some.ensures.value))
    c.enabling_of.ensures

pub returns : goal.returns
returns c =
    let units = units_of c.in_ok-units.units.entries in
    absurd (asked_there (tree_read c.args.reading) c.args.unit.now units c.in_ok-units.ensures
    (ap (map.get units) (sym c.as_str.ensures.value) ∙ get-map_of loading_of c.in_ok-units.units c.as_str.result.now ∙ sym (ap (option_map loading_of) c.in-None.ensures.value)))
