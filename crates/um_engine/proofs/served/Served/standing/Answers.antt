use Rattle.std.proofs.Common.{◌∙◌, ap, sym}
use Rattle.um_engine.specs.Served.{standing_of}
use Rattle.um_engine.proofs.RowLaws.{standing_so}
use Rattle.um_engine.proofs.served.Served.standing.Goals as goal

pub returns : goal.returns
returns c = sym (standing_so c.self.inside.known.value c.self.inside.state c.self.invariant.0) ∙ ap standing_of c.self.view_is
