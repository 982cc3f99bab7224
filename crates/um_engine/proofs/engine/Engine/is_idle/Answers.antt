use Rattle.std.proofs.Common.{sym, subst}
use Rattle.um_model.specs.Machine as model
use Rattle.um_state.specs.View.{input_of, happening_of}
use Rattle.um_engine.proofs.Stepped.{idle_done, idle_lacks}
use Rattle.um_engine.proofs.engine.Engine.is_idle.Goals as goal

pub returns-in-Happened-clause-lacks : goal.returns-in-Happened-clause-lacks
returns-in-Happened-clause-lacks c = λ idle.
    let s = c.args.self.now.served.state in
    let input = input_of c.args.input.now in
    let event = sym (rw c.in-Happened.is at c.event.ensures) in
    let t = model.moment_of s input.moment in
    idle_lacks t s input.event (happening_of c.in-Happened.happening) event
    (subst (λ x. model.HasNoEffect t x (happening_of c.in-Happened.happening)) c.state.ensures.state (c.is_unawaited.ensures idle t))

pub returns-in-Happened-clause-step : goal.returns-in-Happened-clause-step
returns-in-Happened-clause-step c = λ idle.
    let s = c.args.self.now.served.state in
    let input = input_of c.args.input.now in
    let event = sym (rw c.in-Happened.is at c.event.ensures) in
    let t = model.moment_of s input.moment in
    idle_done c.args.self.now.size s input (happening_of c.in-Happened.happening) event
    (subst (λ x. model.HasNoEffect t x (happening_of c.in-Happened.happening)) c.state.ensures.state (c.is_unawaited.ensures idle t))
