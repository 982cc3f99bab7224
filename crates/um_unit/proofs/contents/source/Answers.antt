use Rattle.std.proofs.Common.{ap}
use Rattle.um_model.specs.Units.{Source}
use Rattle.um_unit.proofs.contents.source.Goals as goal

pub returns : goal.returns
returns c = ap {B = Source} (λ reading. record { path = c.args.file.now.path.now; reading = reading }) c.in_ok-parse.ensures.reading
