use Rattle.std.proofs.Common.{◌∙◌, ap}
use Rattle.um_model.specs.Service.{dead_unit, with_unit}
use Rattle.um_state.specs.Tables.{units_by}
use Rattle.um_state.proofs.PutLaws.{units_put}
use Rattle.um_state.proofs.Results.{if_ok_more}
use Rattle.um_state.proofs.TableLaws.{tidy_table}
use Rattle.um_state.proofs.units.Units.to_map.Goals as goal

pub returns-clause-map : goal.returns-clause-map
returns-clause-map c =
    if_ok_more c.unit_map_of.result
    (λ entries are. are ∙ (ap (units_by c.self.inside.names) c.deref.ensures.value ∙ ap (λ t. t.held) c.self.view_is)) c.unit_map_of.ensures

pub returns-clause-tidy : goal.returns-clause-tidy
returns-clause-tidy c = tidy_table dead_unit with_unit units_put c.args.self.now c.self.inside.names c.self.inside.states.items c.self.view_is c.self.invariant.1
