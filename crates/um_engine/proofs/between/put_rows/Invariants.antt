use Rattle.um_engine.proofs.BetweenLaws.{HasPut}
use Rattle.um_engine.proofs.between.put_rows.Given as goal

abbrev pub invariant-loop-number : goal.invariant-loop-number
invariant-loop-number l = HasPut l.initial.work.base l.rows.units.now l.rows.jobs.now l.number l.work
