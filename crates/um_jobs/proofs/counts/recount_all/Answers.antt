use Rattle.std.proofs.Common.{◌≡◌, ◌<◌, ◌∙◌, ◌+◌, ℕ, List, length, set, sym, ap, subst, arith}
use Rattle.std.proofs.lemmas.List.{length-set}
use Rattle.um_model.specs.declared.jobs.UnitJobs.{UnitJobs}
use Rattle.um_jobs.specs.Named.{jobs_at}
use Rattle.um_jobs.proofs.NamedLaws.{put_more}
use Rattle.um_jobs.proofs.counts.recount_all.Goals as goal

pub loop-unit-preserved : goal.loop-unit-preserved
loop-unit-preserved c =
    let js = c.loop-unit.units in
    let u = c.loop-unit.unit in
    let j = c.jobs_of.result in
    let old = c.loop-unit.invariant in
    let now : c.recount.new.units ≡ set js u j = c.recount.ensures.units in
    record {
      each = subst (λ (us : List UnitJobs). (w : ℕ) → w < u + 1 → jobs_at us w ≡ jobs_at c.args.plan.now w) (sym now)
          (put_more c.args.plan.now js u j old.each (omega (arith, old.long, c.loop-unit-test.true)) c.jobs_of.ensures);
      long = ap (λ (us : List UnitJobs). length us) now ∙ (length-set js u j ∙ old.long);
      counted = c.recount.ensures.counted;
    }
