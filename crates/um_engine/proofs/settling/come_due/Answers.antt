use Rattle.std.proofs.Common.{◌≡◌, ◌∙◌, true, false, sym, ap, subst, rules}
use Rattle.um_model.specs.Machine as model
use Rattle.um_model.specs.Service.{state_of_unit}
use Rattle.um_state.specs.View.{state_of}
use Rattle.um_falling.specs.Carrying.{Adds}
use Rattle.um_engine.specs.Engine.{waits_to_restart}
use Rattle.um_engine.proofs.Steps.{due_passes, due_restarts}
use Rattle.um_engine.proofs.settling.come_due.Goals as goal

pub returns-then-waits_to_restart-clause-comes : goal.returns-then-waits_to_restart-clause-comes
returns-then-waits_to_restart-clause-comes c = λ name number.
    let w = c.args.work.now in
    let s = state_of w.now in
    let told : c.waits_to_restart.result ≡ true = search rules in
    let awaits : waits_to_restart (state_of_unit s.units name).sub ≡ true = ap (λ u. waits_to_restart u.sub) (sym (c.unit.ensures.state name number)) ∙ (sym c.waits_to_restart.ensures ∙ told) in
    subst (λ l. Adds (model.ComesDue w.moment s name) w.actions (state_of c.restart.new.work.now) l) (sym c.in_ok-restart.ensures.actions)
    (due_restarts w.moment s (state_of c.restart.new.work.now) name w.actions awaits (c.in_ok-restart.ensures.state name number))

pub returns-clause-comes : goal.returns-clause-comes
returns-clause-comes c = λ name number.
    let w = c.args.work.now in
    let s = state_of w.now in
    let told : c.waits_to_restart.result ≡ false = search rules in
    let none : waits_to_restart (state_of_unit s.units name).sub ≡ false = ap (λ u. waits_to_restart u.sub) (sym (c.unit.ensures.state name number)) ∙ (sym c.waits_to_restart.ensures ∙ told) in
    due_passes w.moment s (state_of c.happen.new.work.now) name w.actions c.happen.new.work.actions none (c.in_ok-happen.ensures.happens name number)
