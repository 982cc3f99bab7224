use Rattle.um_model.proofs.WordsLaws.{finds_words, finds_commands}
use Rattle.um_words.proofs.laws.each_reading_is_found.Goals as goal

pub returns-clause-words : goal.returns-clause-words
returns-clause-words c = finds_words

pub returns-clause-commands : goal.returns-clause-commands
returns-clause-commands c = finds_commands
