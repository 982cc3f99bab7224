use Rattle.std.proofs.Common.{◌∙◌, ap}
use Rattle.um_model.specs.Service.{dead_unit, with_unit}
use Rattle.um_state.proofs.PutLaws.{units_put}
use Rattle.um_state.proofs.SetLaws.{named_put}
use Rattle.um_state.proofs.units.Units.set.Goals as goal

pub returns-in-Some-clause-ok : goal.returns-in-Some-clause-ok
returns-in-Some-clause-ok c =
    c.swap.ensures.held ∙ named_put dead_unit with_unit units_put c.args.self.now c.self.inside.names (ap (λ t. t.names) c.self.view_is) c.args.unit.now c.in-Some.i c.in-Some.ensures.number c.args.state
