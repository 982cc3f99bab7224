use Rattle.um_state.proofs.Differing.{differs_first, differs_second}
use Rattle.um_state.specs.Finding.{row_at}
use Rattle.um_state.specs.Working.{is_same_jobs, is_same_unit}
use Rattle.um_state.proofs.work.differs.Goals as goal

pub returns-then-is_changed : goal.returns-then-is_changed
returns-then-is_changed c =
    let u = c.args.units.now in
    differs_first c.is_changed.result (is_same_unit (row_at u.was c.args.number) (row_at u.now c.args.number)) (is_same_jobs c.args.had c.args.jobs) c.if-is_changed.true c.is_changed.ensures

pub returns-else-is_changed : goal.returns-else-is_changed
returns-else-is_changed c =
    let u = c.args.units.now in
    differs_second c.is_changed.result c.ne.result (is_same_unit (row_at u.was c.args.number) (row_at u.now c.args.number)) (is_same_jobs c.args.had c.args.jobs)
    c.if-is_changed.false c.is_changed.ensures c.ne.ensures
