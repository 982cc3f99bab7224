use Rattle.um_model.proofs.PiecesLaws.{one_reading, begun_is, reading_is}
use Rattle.um_text.proofs.laws.a_text_of_pieces_has_one_reading.Goals as goal

pub returns-clause-begins : goal.returns-clause-begins
returns-clause-begins c = begun_is

pub returns-clause-reads : goal.returns-clause-reads
returns-clause-reads c = reading_is

pub returns-clause-once : goal.returns-clause-once
returns-clause-once c = one_reading
