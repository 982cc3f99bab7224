use Rattle.um_serve.proofs.SleepLaws.{up_to}
use Rattle.um_serve.proofs.laws.no_deadline_is_slept_past.Goals as goal

pub returns : goal.returns
returns c = up_to
