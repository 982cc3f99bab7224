use Rattle.um_state.specs.View.{state_of}
use Rattle.um_engine.proofs.ReadyLaws.{waiting_in}
use Rattle.um_engine.proofs.WorkedLaws.{Settling}
use Rattle.um_engine.proofs.settling.begin_all.Given as goal

-- the job table agrees with the state, and a run that settles the rest settles the whole
abbrev pub invariant-jobs : goal.invariant-jobs
invariant-jobs l = Settling l.initial.work l.work l.jobs

-- the jobs that wait
abbrev pub decreases-jobs : goal.decreases-jobs
decreases-jobs l = waiting_in l.initial.work.graph (state_of l.work.now)
