use Rattle.std.proofs.Common.{sym, subst, rules}
use Rattle.um_model.specs.Machine as model
use Rattle.um_state.specs.Awaiting.{IsUnawaited}
use Rattle.um_state.specs.View.{happening_of, state_of}
use Rattle.um_engine.proofs.Ticks.{report_is_unawaited}
use Rattle.um_engine.proofs.happenings.is_unawaited.Goals as goal

pub returns-in-ProcessExecuted : goal.returns-in-ProcessExecuted
returns-in-ProcessExecuted c = λ idle t.
    let s = state_of c.args.state.now in
    let number = c.in-ProcessExecuted.number in
    let none : IsUnawaited s.units number = search (rules, c.may_await.ensures, c.units.ensures) in
    subst (λ h. model.HasNoEffect t s (happening_of h)) (sym c.in-ProcessExecuted.is) (report_is_unawaited t s number none)
