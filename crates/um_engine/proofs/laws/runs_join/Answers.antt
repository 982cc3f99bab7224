use Rattle.um_laws.proofs.MachineLaws.{run-append, run-cut}
use Rattle.um_engine.proofs.laws.runs_join.Goals as goal

pub returns : goal.returns
returns c = λ size s u p q. (λ (t, first, second). run-append size s t u p q first second, λ run. run-cut size s u p q run)
