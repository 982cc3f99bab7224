use Rattle.std.proofs.Common.{◌∙◌}
use Rattle.um_state.proofs.WorkLaws.{unit_past, unit_row, units_tidy}
use Rattle.um_state.proofs.work.Work.unit.Goals as goal

pub returns-clause-state : goal.returns-clause-state
returns-clause-state c = λ within.
    c.at.ensures
    ∙ unit_row c.args.self.now c.self.inside.base.now c.self.inside.units.now c.self.inside.jobs.items c.self.inside.next c.self.view_is c.self.invariant.3.ascending c.args.i within

pub returns-clause-past : goal.returns-clause-past
returns-clause-past c = λ past.
    c.at.ensures
    ∙ unit_past c.args.self.now c.self.inside.base.now c.self.inside.units.now c.self.inside.jobs.items c.self.inside.next c.self.view_is c.self.invariant.1 c.args.i past

pub returns-clause-tidy : goal.returns-clause-tidy
returns-clause-tidy c = units_tidy c.args.self.now c.self.inside.base.now c.self.inside.units.now c.self.inside.jobs.items c.self.inside.next c.self.view_is
