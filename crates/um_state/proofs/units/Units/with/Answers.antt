use Rattle.std.proofs.Common.{◌∙◌, ap, sym, subst}
use Rattle.um_laws.proofs.NameMaps.{seen}
use Rattle.um_model.proofs.UnitLaws.{tidy_units}
use Rattle.um_model.specs.Service.{dead_unit, with_unit, AreTidyUnits}
use Rattle.um_state.proofs.PutLaws.{units_put}
use Rattle.um_state.proofs.Results.{if_ok_more}
use Rattle.um_state.proofs.SetLaws.{still_apart}
use Rattle.um_state.proofs.TableLaws.{told_none}
use Rattle.um_state.proofs.units.Units.with.Goals as goal

pub returns : goal.returns
returns c =
    let t = c.args.self.now in
    let unit = c.args.unit.now in
    let more = c.in_ok-hold.ensures.ok ∙ ap (λ m. with_unit m unit c.args.state.now) c.in_ok-entries.ensures.map in
    let tidy = subst AreTidyUnits (sym more) (tidy_units t.held unit c.args.state.now c.to_map.ensures.tidy) in
    if_ok_more c.over.result (λ made held. held tidy
    (still_apart dead_unit with_unit units_put t.held (seen c.hold.new.entries) c.self.inside.names c.in_ok-names.names unit c.args.state.now more
    (told_none dead_unit with_unit units_put t c.self.inside.names c.self.inside.states.items c.self.view_is c.self.invariant.1) c.in_ok-names.ensures)
    ∙ more) c.over.ensures.held
