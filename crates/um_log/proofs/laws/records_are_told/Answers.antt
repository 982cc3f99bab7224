use Rattle.um_laws.proofs.ImageLaws.{records_are}
use Rattle.um_log.proofs.laws.records_are_told.Goals as goal

pub returns : goal.returns
returns c = λ format layout generation image. records_are format layout generation image
