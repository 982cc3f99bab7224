use Rattle.um_keeper.proofs.Repeating.{repeats_none, run_waits, lives_repeat_none}
use Rattle.um_keeper.proofs.laws.finished.Goals as goal

pub returns : goal.returns
returns c = record { run = λ size s t inputs run. repeats_none run; rest = λ size s t inputs run unit rest. run_waits unit run rest; crashes = lives_repeat_none }
