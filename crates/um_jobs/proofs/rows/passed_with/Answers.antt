use Rattle.std.proofs.Common.{set, sym, subst}
use Rattle.um_jobs.specs.RowReady.{ArePassed}
use Rattle.um_jobs.proofs.PassedLaws.{passed_held}
use Rattle.um_jobs.proofs.rows.passed_with.Goals as goal

pub returns-then-deactivating : goal.returns-then-deactivating
returns-then-deactivating c g units passed =
    subst (λ d. ArePassed g units (set c.args.held.now c.args.unit d) c.args.passed) (sym c.if-deactivating.true) (passed_held c.args.held.now c.args.unit c.args.passed g units passed)
