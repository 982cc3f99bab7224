use Rattle.um_model.proofs.WordsLaws.{same_words}
use Rattle.um_words.proofs.laws.words_have_one_reading.Goals as goal

pub returns : goal.returns
returns c = same_words
