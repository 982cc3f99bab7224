use Rattle.std.proofs.Common.{refl, arith}
use Rattle.um_engine.proofs.BetweenLaws.{all_put, more_put, none_put}
use Rattle.um_engine.proofs.between.put_rows.Goals as goal

pub loop-number-init : goal.loop-number-init
loop-number-init c = none_put c.args.work.now.base c.args.rows.units.now c.args.rows.jobs.now c.args.was c.args.work.now c.requires.was refl c.requires.begins

pub loop-number-preserved : goal.loop-number-preserved
loop-number-preserved c =
    more_put c.args.work.now.base c.args.rows.units.now c.args.rows.jobs.now c.loop-number.number c.loop-number.work c.set_unit.new.self c.set_jobs.new.self _ c.index-rows-number.result _ _ c.loop-number.invariant
    (omega (arith, c.requires.was.units_len, c.loop-number-test.true)) c.requires.units c.requires.jobs refl refl c.set_unit.ensures.base
    c.set_jobs.ensures.base c.set_unit.ensures.now c.set_jobs.ensures.now

pub returns-clause-base : goal.returns-clause-base
returns-clause-base c = c.loop-number.invariant.base

pub returns-clause-now : goal.returns-clause-now
returns-clause-now c =
    all_put c.args.work.now.base c.args.rows.units.now c.args.rows.jobs.now c.loop-number.number c.loop-number.work c.requires.units c.requires.jobs
    (omega (arith, c.requires.was.units_len, c.loop-number-test.false)) c.loop-number.invariant
