use Rattle.std.proofs.Common.{◌≢◌, ◌∙◌, ap, refl}
use Rattle.um_falling.specs.Work.{WorkView}
use Rattle.um_model.specs.Machine as model
use Rattle.um_model.specs.Machine.{State}
use Rattle.um_model.specs.Refusals.{at_first}
use Rattle.um_wire.specs.Refusal.{refused_of}
use Rattle.um_wire.specs.declared.refusal.Refusal.TheVariants.{NoMemory}
use Rattle.um_engine.proofs.CancelLaws.{cancels_none, cancels_so, cancels_some}
use Rattle.um_engine.proofs.KnownLaws.{works_still}
use Rattle.um_engine.proofs.PlannedLaws.{refuses_on}
use Rattle.um_engine.proofs.commands.without_waiting.Goals as goal

pub returns-in_err-unit-clause-refused : goal.returns-in_err-unit-clause-refused
returns-in_err-unit-clause-refused c = λ profile.
    refuses_on (model.Refuses profile c.args.served.now.state (model.Cancel c.args.asked.now)) c.from_residual.result c.in_err-unit.field-0.0 c.from_residual.ensures.1
    (λ differs. at_first (c.in_err-unit.ensures.refused differs))

pub returns-in_err-work-clause-refused : goal.returns-in_err-work-clause-refused
returns-in_err-work-clause-refused c = λ profile.
    refuses_on (model.Refuses profile c.args.served.now.state (model.Cancel c.args.asked.now)) c.from_residual-in_err-work.result NoMemory c.from_residual-in_err-work.ensures.1 (λ differs. absurd (differs refl))

pub returns-in_err-cancel_waiting-clause-refused : goal.returns-in_err-cancel_waiting-clause-refused
returns-in_err-cancel_waiting-clause-refused c = λ profile.
    let v = c.args.served.now in
    let asked = c.args.asked.now in
    let e = c.in_err-cancel_waiting.field-0.0 in
    let step : e ≢ NoMemory → model.Refuses profile v.state (model.Cancel asked) (refused_of e) =
    λ differs. cancels_none v c.args.moment asked c.in_ok-unit.unit c.in_ok-work.work c.in_ok-work.ensures.begins c.in_ok-unit.ensures.unit c.in_ok-unit.ensures.refused (refused_of e)
    (c.in_err-cancel_waiting.ensures.refused differs) in
    refuses_on (model.Refuses profile v.state (model.Cancel asked)) c.from_residual-in_err-cancel_waiting.result e c.from_residual-in_err-cancel_waiting.ensures.1 step

pub returns-clause-changed : goal.returns-clause-changed
returns-clause-changed c = λ profile.
    cancels_so c.args.served.now c.args.moment c.args.asked.now c.in_ok-unit.unit c.in_ok-work.work c.in_ok-work.ensures.begins c.in_ok-unit.ensures.unit c.cancel_waiting.new.work
    c.in_ok-cancel_waiting.ensures.state

pub returns-clause-refused : goal.returns-clause-refused
returns-clause-refused c = λ profile.
    cancels_some c.args.served.now c.args.moment c.args.asked.now c.in_ok-unit.unit c.in_ok-work.work c.in_ok-work.ensures.begins c.in_ok-unit.ensures.unit c.in_ok-unit.ensures.refused
    c.in_ok-cancel_waiting.ensures.refused

pub returns-clause-works : goal.returns-clause-works
returns-clause-works c =
    works_still c.args.served.now c.in_ok-work.work c.cancel_waiting.new.work c.in_ok-work.ensures.works c.in_ok-cancel_waiting.ensures.keeps
    (ap (λ (s : State). s.tree) c.in_ok-cancel_waiting.ensures.state) (ap (λ (s : State). s.loaded) c.in_ok-cancel_waiting.ensures.state)

pub returns-clause-moment : goal.returns-clause-moment
returns-clause-moment c = c.in_ok-cancel_waiting.ensures.keeps.moment ∙ ap (λ (z : WorkView). z.moment) c.in_ok-work.ensures.begins

pub returns-clause-actions : goal.returns-clause-actions
returns-clause-actions c = c.in_ok-cancel_waiting.ensures.actions ∙ ap (λ (z : WorkView). z.actions) c.in_ok-work.ensures.begins
