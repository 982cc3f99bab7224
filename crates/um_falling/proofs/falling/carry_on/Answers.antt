use Rattle.std.proofs.Common.{ap, subst}
use Rattle.um_model.specs.declared.service.UnitState.{UnitState}
use Rattle.um_falling.specs.Falling.{AddsFalling, sub_of}
use Rattle.um_falling.proofs.WorkLaws.{number_on}
use Rattle.um_state.specs.View.{state_of}
use Rattle.um_falling.proofs.falling.carry_on.Goals as goal

pub returns-clause-adds : goal.returns-clause-adds
returns-clause-adds c = λ name number.
    let u = c.args.work.now in
    let v = c.carry.new.work in
    let keeps = c.in_ok-fails.ensures.keeps in
    subst (λ g. AddsFalling g (state_of v.now) (sub_of (state_of u.now) name) name c.args.list.now.items c.push_falling.new.list.items) keeps.graph
    (subst (λ b. AddsFalling v.graph (state_of v.now) b name c.args.list.now.items c.push_falling.new.list.items) (ap (λ (x : UnitState). x.sub) (c.unit-before.ensures.state name number))
    (c.in_ok-push_falling.ensures name (number_on u v c.args.unit name keeps number)))
