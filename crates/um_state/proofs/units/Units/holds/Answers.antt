use Rattle.std.proofs.Common.{◌∙◌, not, ap}
use Rattle.um_model.specs.Service.{holds_nothing}
use Rattle.um_state.proofs.HeldLaws.{unit_there}
use Rattle.um_state.proofs.units.Units.holds.Goals as goal

pub returns : goal.returns
returns c = ap not (c.holds_nothing.ensures ∙ ap holds_nothing c.get.ensures.state) ∙ unit_there c.args.self.now.held c.get.ensures.tidy c.args.unit.now
