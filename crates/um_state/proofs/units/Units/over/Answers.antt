use Rattle.std.proofs.Common.{◌∙◌}
use Rattle.um_laws.proofs.NameMaps.{seen}
use Rattle.um_model.specs.Service.{dead_unit, with_unit}
use Rattle.um_state.proofs.PutLaws.{units_put}
use Rattle.um_state.proofs.RenumberLaws.{by_looks}
use Rattle.um_state.proofs.Results.{if_ok_more}
use Rattle.um_state.proofs.units.Units.over.Goals as goal

pub returns-clause-held : goal.returns-clause-held
returns-clause-held c =
    if_ok_more c.made.result (λ made held tidy apart. held ∙ by_looks dead_unit with_unit units_put c.args.names c.in_ok-states.states.items (seen c.args.entries.now) c.unit_rows_in.ensures.ascending tidy c.in_ok-states.ensures.rows apart) c.made.ensures.held
