use Rattle.std.proofs.Common.{◌∷◌, [], map, slice_get, sym, ap, subst, ◌∙◌}
use Rattle.std.proofs.lemmas.Result.{IfOk-weaker}
use Rattle.um_model.specs.Service.{SpawnProcess}
use Rattle.um_model.specs.Settings.{commands_in}
use Rattle.um_model.specs.Transitions.{AreActions, spawn}
use Rattle.um_model.specs.declared.transition.Order.TheVariants.{Spawn}
use Rattle.um_service.specs.Started.{Started, started_at}
use Rattle.um_service.specs.View.{action_of}
use Rattle.um_unit.specs.ServiceView.{service_settings_of}
use Rattle.um_service.proofs.StartLemmas.{are_started}
use Rattle.um_service.proofs.actions.spawn.Goals as goal

pub returns : goal.returns
returns c unit =
    let settings = service_settings_of c.args.settings.now.value in
    let wanted = started_at settings c.args.which c.args.index in
    IfOk-weaker c.only.result _ _
    (λ actions one. subst (AreActions settings c.args.around.now unit (Spawn c.args.which c.args.index))
    (sym (ap (map action_of) one ∙ ap (λ n. SpawnProcess n c.in_ok-start.start.words c.in_ok-start.start.environment ∷ []) c.number_of-number.ensures
    ∙ ap (λ (s : Started). SpawnProcess c.args.around.now.next s.words s.environment ∷ []) c.in_ok-start.ensures))
    (spawn c.args.which c.args.index wanted.words (are_started settings.environment (slice_get (commands_in settings c.args.which) c.args.index))))
    c.only.ensures
