use Rattle.um_model.specs.Words.{piece_of_word}
use Rattle.um_model.proofs.PiecesLaws.{begun_is}
use Rattle.um_model.proofs.WordSteps.{begun-read}
use Rattle.um_model.proofs.WordsLaws.{word_spelled}
use Rattle.um_words.proofs.laws.a_word_is_found_as_it_is_spelled.Goals as goal

pub returns-clause-pieces : goal.returns-clause-pieces
returns-clause-pieces c = λ rules. begun_is (piece_of_word rules)

pub returns-clause-read : goal.returns-clause-read
returns-clause-read c = begun-read

pub returns-clause-spelled : goal.returns-clause-spelled
returns-clause-spelled c = word_spelled
