use Rattle.std.proofs.Common.{◌∙◌}
use Rattle.um_model.specs.Machine as model
use Rattle.um_engine.proofs.PlannedLaws.{refuses_on}
use Rattle.um_engine.proofs.ResetLaws.{does_reset, moment_reset, works_reset}
use Rattle.um_engine.proofs.resetting.without_failures.Goals as goal

pub returns-in_err-units-clause-refused : goal.returns-in_err-units-clause-refused
returns-in_err-units-clause-refused c = λ profile.
    refuses_on (model.Refuses profile c.args.served.now.state (model.ResetFailed c.args.asked.now)) c.from_residual.result c.in_err-units.field-0.0 c.from_residual.ensures.1
    (c.in_err-units.ensures.refused profile)

pub returns-clause-does : goal.returns-clause-does
returns-clause-does c = λ profile.
    does_reset c.args.served.now c.args.moment c.args.asked.now c.deref.result.now c.in_ok-work.work c.reset_all.new.work c.in_ok-work.ensures.begins
    (c.deref.ensures.value ∙ c.in_ok-units.ensures.units) c.in_ok-reset_all.ensures.keeps c.in_ok-reset_all.ensures.resets

pub returns-clause-works : goal.returns-clause-works
returns-clause-works c =
    works_reset c.args.served.now c.args.moment c.args.asked.now c.deref.result.now c.in_ok-work.work c.reset_all.new.work c.in_ok-work.ensures.begins
    (c.deref.ensures.value ∙ c.in_ok-units.ensures.units) c.in_ok-reset_all.ensures.keeps c.in_ok-reset_all.ensures.resets

pub returns-clause-moment : goal.returns-clause-moment
returns-clause-moment c =
    moment_reset c.args.served.now c.args.moment c.args.asked.now c.deref.result.now c.in_ok-work.work c.reset_all.new.work c.in_ok-work.ensures.begins
    (c.deref.ensures.value ∙ c.in_ok-units.ensures.units) c.in_ok-reset_all.ensures.keeps c.in_ok-reset_all.ensures.resets
