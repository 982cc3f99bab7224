use Rattle.std.proofs.Common.{◌∙◌, ◌<◌, ap, arith, length}
use Rattle.std.proofs.lemmas.List.{length-set}
use Rattle.um_state.specs.Working.{with_rows}
use Rattle.um_state.proofs.MarkLaws.{unit_marked}
use Rattle.um_state.proofs.WorkLaws.{past_unit_row, set_unit_row}
use Rattle.um_state.proofs.work.Work.set_unit.Goals as goal

pub invariant_of-self : goal.invariant_of-self
invariant_of-self c =
    let s = c.self.inside in
    let (was, units_len, jobs_len, are, marks_len, unmarked) = c.self.invariant in
    let here : c.args.i < length s.marked.items = omega arith in
    let kept = unit_marked s.marked.items c.args.i here s.was.units.now s.units.now s.was.jobs.now s.jobs.items unmarked c.args.unit c.set.new.self.now c.set.ensures.now in
    (c.set.ensures.was ∙ was, ap length c.set.ensures.now ∙ (length-set s.units.now c.args.i c.args.unit ∙ units_len), jobs_len, are, marks_len, kept)

pub returns-then-i-len-clause-now : goal.returns-then-i-len-clause-now
returns-then-i-len-clause-now c =
    ap (λ us. with_rows c.self.inside.base.now us c.self.inside.jobs.items c.self.inside.next) c.set.ensures.now
    ∙ set_unit_row c.args.self.now c.self.inside.base.now c.self.inside.units.now c.self.inside.jobs.items c.self.inside.next c.self.view_is c.self.invariant.3.ascending (omega arith) c.args.i c.args.unit (omega arith)

pub returns-else-i-len-clause-now : goal.returns-else-i-len-clause-now
returns-else-i-len-clause-now c = past_unit_row c.args.self.now c.self.inside.base.now c.self.inside.units.now c.self.inside.jobs.items c.self.inside.next c.self.view_is (omega arith) c.args.i c.args.unit (omega arith)
