use Rattle.std.proofs.Common.{◌∙◌, sym, arith}
use Rattle.std.proofs.lemmas.List.{length-set}
use Rattle.um_jobs.proofs.NamedLaws.{all_put, put_more}
use Rattle.um_jobs.proofs.table.put_all.Goals as goal

pub loop-unit-preserved : goal.loop-unit-preserved
loop-unit-preserved c =
    let js = c.loop-unit.units in
    let u = c.loop-unit.unit in
    let j = c.jobs_of.result in
    let old = c.loop-unit.invariant in
    record {
      each = put_more c.args.plan.now js u j old.each (omega (arith, old.long, c.loop-unit-test.true)) c.jobs_of.ensures;
      long = length-set js u j ∙ old.long;
    }

pub returns-clause-whole : goal.returns-clause-whole
returns-clause-whole c = λ same.
    let is = c.loop-unit.invariant in
    all_put c.args.plan.now c.loop-unit.units c.loop-unit.unit is.each (omega (arith, is.long, c.loop-unit-test.false)) (same ∙ sym is.long)
