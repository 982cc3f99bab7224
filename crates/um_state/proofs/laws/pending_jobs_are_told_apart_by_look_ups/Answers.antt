use Rattle.um_model.proofs.UnitLaws.{same_tidy}
use Rattle.um_model.specs.Jobs.{no_jobs}
use Rattle.um_state.proofs.laws.pending_jobs_are_told_apart_by_look_ups.Goals as goal

pub returns : goal.returns
returns c a b tidy also same = same_tidy no_jobs a b tidy also same
