use Rattle.std.proofs.Common.{subst}
use Rattle.um_model.specs.Machine as model
use Rattle.um_model.specs.Machine.{State}
use Rattle.um_model.specs.Refusals.{Refused}
use Rattle.um_wire.specs.Refusal.{refused_of}
use Rattle.um_engine.proofs.PlannedLaws.{refuses_on}
use Rattle.um_engine.proofs.resetting.asked_unit.Goals as goal

pub returns-in_err-check_missing-clause-refused : goal.returns-in_err-check_missing-clause-refused
returns-in_err-check_missing-clause-refused c =
    let asked = c.args.asked.now in
    let e = c.in_err-check_missing.field-0.0 in
    refuses_on (model.IsMissing c.args.served.now.state asked) c.from_residual-in_err-check_missing.result e c.from_residual-in_err-check_missing.ensures.1
    (λ differs. subst (λ (x : State). model.IsMissing x asked (refused_of e)) c.state-state.ensures.state (c.in_err-check_missing.ensures differs))

pub returns-clause-refused : goal.returns-clause-refused
returns-clause-refused c = subst (λ (x : State). (r : Refused) → ¬ model.IsMissing x c.args.asked.now r) c.state-state.ensures.state c.in_ok-check_missing.ensures
