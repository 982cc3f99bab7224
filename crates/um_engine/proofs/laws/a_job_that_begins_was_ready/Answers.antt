use Rattle.um_laws.proofs.BegunLaws.{begun_next}
use Rattle.um_engine.proofs.laws.a_job_that_begins_was_ready.Goals as goal

pub returns : goal.returns
returns c = λ size s input reply actions t step. begun_next step
