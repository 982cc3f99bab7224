use Rattle.um_line.proofs.RunnerWords.{are_run}
use Rattle.um_line.proofs.laws.a_runner_s_words_are_run.Goals as goal

pub returns : goal.returns
returns c = are_run
