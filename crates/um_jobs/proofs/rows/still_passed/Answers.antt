use Rattle.std.proofs.Common.{◌≡◌, ◌∙◌, true, sym, ap, rules}
use Rattle.um_model.specs.Jobs.{no_jobs}
use Rattle.um_jobs.specs.Named.{jobs_at}
use Rattle.um_jobs.specs.RowReady.{binds_as_before}
use Rattle.um_jobs.proofs.PassedLaws.{passed_at}
use Rattle.um_jobs.proofs.rows.still_passed.Goals as goal

pub returns-in_default : goal.returns-in_default
returns-in_default c g held =
    let there = c.in-Some.ensures.lookup.3 in
    let told : c.binds_as_before.result ≡ true = search rules in
    let binds : binds_as_before (jobs_at c.args.units.now c.args.unit) c.args.jobs ≡ true =
    ap (λ before. binds_as_before before c.args.jobs) (sym (there.1 no_jobs)) ∙ (sym c.binds_as_before.ensures ∙ told) in
    passed_at c.args.units.now c.args.unit c.args.jobs there.0 binds c.args.passed g held
