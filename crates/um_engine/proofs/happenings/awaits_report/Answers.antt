use Rattle.std.proofs.Common.{◌∙◌, ◌&&◌, ap}
use Rattle.um_model.specs.Ends.{waits_for_report, has_one_command}
use Rattle.um_model.specs.Service.{is_number}
use Rattle.um_model.specs.declared.service.UnitState.{UnitState}
use Rattle.um_engine.proofs.Ticks.{waits_for_none, waits_by_kind}
use Rattle.um_engine.proofs.happenings.awaits_report.Goals as goal

pub returns-then-not-may_await : goal.returns-then-not-may_await
returns-then-not-may_await c = λ s serves known stands.
    waits_for_none s c.args.number c.args.unit.now c.may_await.result
    (c.may_await.ensures ∙ ap (λ (u : UnitState). waits_for_report u.sub && is_number c.args.number u.main) stands) c.if-not-may_await.true

pub returns-in-None : goal.returns-in-None
returns-in-None c = λ s serves known stands. absurd (c.in-None.ensures known)

pub returns-in-Some : goal.returns-in-Some
returns-in-Some c = λ s serves known stands.
    waits_by_kind s c.args.number c.args.unit.now c.may_await.result
    (c.may_await.ensures ∙ ap (λ (u : UnitState). waits_for_report u.sub && is_number c.args.number u.main) stands)
    c.has_one_command.result c.if-not-may_await.false (c.has_one_command.ensures ∙ ap has_one_command (c.kind_in.ensures s c.args.unit.now serves c.in-Some.ensures))
