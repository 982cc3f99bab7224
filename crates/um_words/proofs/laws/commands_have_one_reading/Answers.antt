use Rattle.um_model.proofs.WordsLaws.{same_commands}
use Rattle.um_words.proofs.laws.commands_have_one_reading.Goals as goal

pub returns : goal.returns
returns c = same_commands
