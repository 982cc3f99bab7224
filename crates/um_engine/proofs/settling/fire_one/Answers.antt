use Rattle.std.proofs.Common.{◌≡◌, ◌≢◌, ◌∙◌, Some, sym, ap, subst, rules}
use Rattle.um_model.specs.Machine as model
use Rattle.um_model.specs.declared.service.UnitState.{UnitState}
use Rattle.um_state.specs.View.{state_of}
use Rattle.um_falling.specs.Carrying.{Adds}
use Rattle.um_falling.proofs.Carried.{deadline_known}
use Rattle.um_falling.proofs.WorkLaws.{keeps_all, keeps_then}
use Rattle.um_engine.proofs.Steps.{fires_one, gone_one}
use Rattle.um_engine.proofs.settling.fire_one.Goals as goal

pub returns-in_default-clause-fires : goal.returns-in_default-clause-fires
returns-in_default-clause-fires c =
    let w = c.args.work.now in
    let due = c.args.due.now in
    gone_one w.moment due.deadline due.unit (state_of w.now) w.actions
    (λ stands. c.in_default.ensures (deadline_known w.graph (state_of w.now) due.unit due.deadline c.graph.ensures.serves stands))

pub returns-in_default-clause-keeps : goal.returns-in_default-clause-keeps
returns-in_default-clause-keeps c = keeps_all c.args.work.now

pub returns-then-ne-clause-fires : goal.returns-then-ne-clause-fires
returns-then-ne-clause-fires c =
    let w = c.args.work.now in
    let due = c.args.due.now in
    let told = ap (λ (u : UnitState). u.deadline) (c.unit.ensures.state due.unit c.in-Some.ensures) in
    let differs : c.unit.result.deadline ≢ Some due.deadline = search rules in
    gone_one w.moment due.deadline due.unit (state_of w.now) w.actions (λ stands. differs (told ∙ stands))

pub returns-then-ne-clause-keeps : goal.returns-then-ne-clause-keeps
returns-then-ne-clause-keeps c = keeps_all c.args.work.now

pub returns-clause-fires : goal.returns-clause-fires
returns-clause-fires c =
    let w = c.args.work.now in
    let due = c.args.due.now in
    let told = ap (λ (u : UnitState). u.deadline) (c.unit.ensures.state due.unit c.in-Some.ensures) in
    let same : c.unit.result.deadline ≡ Some due.deadline = search rules in
    let b = c.come_due.new.work in
    let v = c.settle.new.work in
    fires_one w.moment due.deadline due.unit (state_of w.now) (state_of b.now) (state_of v.now) w.actions b.actions v.actions (sym told ∙ same)
    (c.in_ok-come_due.ensures.comes due.unit c.in-Some.ensures)
    (subst (λ m. Adds (model.Settles m (state_of b.now)) b.actions (state_of v.now) v.actions) c.in_ok-come_due.ensures.keeps.moment c.in_ok-settle.ensures.settles)

pub returns-clause-keeps : goal.returns-clause-keeps
returns-clause-keeps c = keeps_then c.args.work.now c.come_due.new.work c.settle.new.work c.in_ok-come_due.ensures.keeps c.in_ok-settle.ensures.keeps
