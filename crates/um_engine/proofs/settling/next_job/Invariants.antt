use Rattle.um_state.specs.View.{state_of}
use Rattle.um_engine.specs.Filled.{Tells}
use Rattle.um_engine.proofs.ReadyLaws.{free_in}
use Rattle.um_engine.proofs.settling.next_job.Given as goal

-- the job table agrees with the state
abbrev pub invariant-held : goal.invariant-held
invariant-held l = Tells l.work.graph (state_of l.work.now) l.jobs

-- the number of units that aren't marked as deactivating
abbrev pub decreases-held : goal.decreases-held
decreases-held l = free_in l.jobs.held
