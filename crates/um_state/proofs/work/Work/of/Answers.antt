use Rattle.std.proofs.Common.{◌≡◌, ◌∙◌, length, ap}
use Rattle.um_state.specs.Tables.{jobs_by, units_by}
use Rattle.um_state.specs.Working.{AreRowsOf, with_maps}
use Rattle.um_state.proofs.MarkLaws.{all_kept}
use Rattle.um_state.proofs.work.Work.of.Goals as goal

pub returns-clause-now : goal.returns-clause-now
returns-clause-now c =
    let base = c.args.base.now in
    let rows : AreRowsOf base c.in-Some.was = c.in-Some.ensures.rows in
    let units : units_by base.names c.in_ok-of.field-0.now ≡ base.state.units = ap (units_by base.names) c.in_ok-of.ensures.now ∙ rows.units in
    let jobs : jobs_by base.names c.in_ok-from_slice.field-0.items ≡ base.state.pending = ap (jobs_by base.names) c.in_ok-from_slice.ensures.items ∙ rows.pending in
    λ j. with_maps base (units j) (jobs j) (c.next.ensures j)

pub invariant_of-result : goal.invariant_of-result
invariant_of-result c =
    let rows : AreRowsOf c.args.base.now c.in-Some.was = c.in-Some.ensures.rows in
    let had = c.in-Some.was in
    let kept = all_kept c.in_ok-marked.marked.items had.units.now c.in_ok-of.field-0.now had.jobs.now c.in_ok-from_slice.field-0.items c.in_ok-of.ensures.now c.in_ok-from_slice.ensures.items in
    (c.in_ok-of.ensures.was, ap length c.in_ok-of.ensures.now ∙ rows.units_len, c.in_ok-from_slice.ensures.len ∙ rows.jobs_len, rows, c.in_ok-marked.ensures.len ∙ rows.jobs_len, kept)
