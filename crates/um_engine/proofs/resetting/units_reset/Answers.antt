use Rattle.std.proofs.Common.{◌≢◌, subst, sym}
use Rattle.um_model.specs.Machine as model
use Rattle.um_wire.specs.Refusal.{refused_of}
use Rattle.um_wire.specs.declared.refusal.Refusal.TheVariants.{NoMemory}
use Rattle.um_engine.proofs.PlannedLaws.{refuses_on}
use Rattle.um_engine.proofs.resetting.units_reset.Goals as goal

pub returns-in_err-asked_unit-in-Some-clause-refused :
    goal.returns-in_err-asked_unit-in-Some-clause-refused
returns-in_err-asked_unit-in-Some-clause-refused c = λ profile.
    let s = c.args.served.now.state in
    let e = c.in_err-asked_unit-in-Some.field-0.0 in
    let step : e ≢ NoMemory → model.Refuses profile s (model.ResetFailed c.args.asked.now) (refused_of e) =
    λ differs. subst (λ o. model.Refuses profile s (model.ResetFailed o) (refused_of e)) (sym c.in-Some.is) (c.in_err-asked_unit-in-Some.ensures.refused differs) in
    refuses_on (model.Refuses profile s (model.ResetFailed c.args.asked.now)) c.from_residual.result e c.from_residual.ensures.1 step
