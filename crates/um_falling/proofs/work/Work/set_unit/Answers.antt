use Rattle.std.proofs.Common.{◌∙◌, ap, map, subst, sym}
use Rattle.um_model.specs.Standing.{Standing}
use Rattle.um_state.specs.View.{state_of, action_of}
use Rattle.um_state.specs.Working.{unit_set}
use Rattle.um_falling.specs.Over.{Serves}
use Rattle.um_falling.specs.Work.{Keeps, WorkView}
use Rattle.um_falling.proofs.WorkLaws.{keeps_set, seen_as, serves_unit_set, unit_set_by}
use Rattle.um_falling.proofs.work.Work.set_unit.Goals as goal

pub invariant_of-self : goal.invariant_of-self
invariant_of-self c =
    let x = c.self.inside in
    let serves = serves_unit_set x.graph.now x.rows.now c.self.invariant.0 c.self.invariant.1 c.args.unit c.args.stands in
    (ap (λ (s : Standing). s.names) c.set_unit.ensures.now ∙ c.self.invariant.0, subst (λ (s : Standing). Serves x.graph.now (state_of s)) (sym c.set_unit.ensures.now) serves)

pub returns-clause-state : goal.returns-clause-state
returns-clause-state c =
    unit_set_by c.args.self.now c.self.inside.graph.now c.self.inside.rows.base c.self.inside.rows.now c.self.inside.moment (map action_of c.self.inside.actions.items) c.self.view_is c.self.invariant.0
    c.args.unit c.args.stands c.set_unit.new.self.now c.set_unit.ensures.now

pub returns-clause-now : goal.returns-clause-now
returns-clause-now c = c.set_unit.ensures.now ∙ ap (λ (w : WorkView). unit_set w.now c.args.unit c.args.stands) c.self.view_is

pub returns-clause-keeps : goal.returns-clause-keeps
returns-clause-keeps c =
    let x = c.self.inside in
    let then = c.set_unit.new.self in
    let serves = serves_unit_set x.graph.now x.rows.now c.self.invariant.0 c.self.invariant.1 c.args.unit c.args.stands in
    subst (λ b. Keeps c.args.self.now (seen_as x.graph.now b then.now x.moment (map action_of x.actions.items))) (sym c.set_unit.ensures.base)
    (keeps_set c.args.self.now c.self.inside.graph.now c.self.inside.rows.base c.self.inside.rows.now c.self.inside.moment (map action_of c.self.inside.actions.items) c.self.view_is c.self.invariant.0 then.now (λ _. subst (λ (s : Standing). Serves x.graph.now (state_of s)) (sym c.set_unit.ensures.now) serves))
