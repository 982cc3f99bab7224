use Rattle.um_model.specs.Names.{unescape_front}
use Rattle.um_model.proofs.PiecesLaws.{one_reading}
use Rattle.um_name.proofs.laws.an_escaped_text_has_one_reading.Goals as goal

pub returns : goal.returns
returns c = one_reading unescape_front
