use Rattle.std.proofs.Common.{sym, subst}
use Rattle.std.proofs.lemmas.Result.{IfOk-weaker}
use Rattle.um_model.specs.Transitions.{AreActions, nothing, signals}
use Rattle.um_unit.specs.ServiceView.{service_settings_of}
use Rattle.um_service.proofs.actions.actions_of.Goals as goal

pub returns-in-Nothing : goal.returns-in-Nothing
returns-in-Nothing c = rw (c.in-Nothing.is, c.new.ensures.items) nothing

pub returns-in-Spawn : goal.returns-in-Spawn
returns-in-Spawn c = rw c.in-Spawn.is (c.spawn.ensures c.args.unit.now)

pub returns-in-Signal : goal.returns-in-Signal
returns-in-Signal c =
    rw c.in-Signal.is (IfOk-weaker c.signals.result _ _
    (λ actions all. subst (AreActions (service_settings_of c.args.settings.now.value) c.args.around.now c.args.unit.now _) (sym all) (signals c.in-Signal.signal))
    c.signals.ensures)
