use Rattle.std.proofs.Common.{◌∙◌, ap}
use Rattle.um_model.specs.Store.{filled}
use Rattle.um_sector.proofs.Front.{is_filled}
use Rattle.um_sector.proofs.fields.Fields.sector.Goals as goal

pub returns : goal.returns
returns c = is_filled c.self.inside.sector c.self.inside.length c.self.told c.self.invariant.0 c.self.invariant.1 ∙ ap filled c.self.view_is
