use Rattle.std.proofs.Common.{◌∙◌, ◌≤◌, refl, ap, arith}
use Rattle.std.proofs.lemmas.Bool.{ltb-false}
use Rattle.um_model.specs.Machine as model
use Rattle.um_model.specs.Machine.{State}
use Rattle.um_wire.specs.declared.refusal.Refusal.TheVariants.{NoMemory}
use Rattle.um_engine.proofs.PlannedLaws.{refuses_on, same_without, served_plan}
use Rattle.um_engine.proofs.planning.carry_out.Goals as goal

pub planned_in-requires-clause-demands : goal.planned_in-requires-clause-demands
planned_in-requires-clause-demands c = c.requires.demands

pub planned_in-requires-clause-exact : goal.planned_in-requires-clause-exact
planned_in-requires-clause-exact c = c.requires.exact

pub returns-in_err-work-clause-refused : goal.returns-in_err-work-clause-refused
returns-in_err-work-clause-refused c = λ profile.
    let wanted = c.args.wanted.now in
    refuses_on (model.Refuses profile c.args.served.now.state (model.ForUnit wanted.verb wanted.asked.now wanted.mode)) c.from_residual.result c.in_err-work.field-0.0 c.from_residual.ensures.1
    (c.in_err-work.ensures.refused profile)

pub returns-in_err-delta-clause-refused : goal.returns-in_err-delta-clause-refused
returns-in_err-delta-clause-refused c = λ profile.
    let wanted = c.args.wanted.now in
    refuses_on (model.Refuses profile c.args.served.now.state (model.ForUnit wanted.verb wanted.asked.now wanted.mode)) c.from_residual-in_err-delta.result NoMemory c.from_residual-in_err-delta.ensures.1
    (λ differs. absurd (differs refl))

pub returns-clause-planned : goal.returns-clause-planned
returns-clause-planned c =
    served_plan c.args.served.now.state (c.args.demand, c.args.unit.now) c.args.served.now c.swap.new.self c.in_ok-work.work c.clock-moment.result c.in_ok-delta.delta refl
    (c.clock-moment.ensures ∙ ap (λ (s : State). s.clock) c.state.ensures.state) c.in_ok-work.ensures.works c.in_ok-work.ensures.moment c.in_ok-work.ensures.planned
    c.in_ok-delta.ensures.after c.swap.ensures.state

pub returns-clause-refused : goal.returns-clause-refused
returns-clause-refused c = λ profile. c.in_ok-work.ensures.refused profile

pub returns-clause-same : goal.returns-clause-same
returns-clause-same c none =
    let low : c.len-changes.result ≤ 0 = ltb-false 0 c.len-changes.result none in
    same_without c.args.served.now.state (c.args.demand, c.args.unit.now) c.args.served.now c.swap.new.self c.in_ok-delta.delta
    (served_plan c.args.served.now.state (c.args.demand, c.args.unit.now) c.args.served.now c.swap.new.self c.in_ok-work.work c.clock-moment.result c.in_ok-delta.delta refl
    (c.clock-moment.ensures ∙ ap (λ (s : State). s.clock) c.state.ensures.state) c.in_ok-work.ensures.works c.in_ok-work.ensures.moment c.in_ok-work.ensures.planned
    c.in_ok-delta.ensures.after c.swap.ensures.state) refl c.swap.ensures.state (omega (arith, low, c.len-changes.ensures))
