use Rattle.um_engine.proofs.PlannedLaws.{PutsBelow}
use Rattle.um_engine.proofs.planning.put_jobs.Given as goal

abbrev pub invariant-loop-unit : goal.invariant-loop-unit
invariant-loop-unit l = PutsBelow l.initial.work l.work l.jobs l.unit
