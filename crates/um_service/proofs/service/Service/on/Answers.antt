use Rattle.std.proofs.Common.{◌+◌, map, ap, subst, ◌∙◌}
use Rattle.um_model.specs.Transitions.{transition, spawned, AreActions}
use Rattle.um_laws.proofs.TransitionLaws.{keeps_process, has_room, next_is_small}
use Rattle.um_service.specs.View.{action_of}
use Rattle.um_unit.specs.ServiceView.{service_settings_of}
use Rattle.um_service.proofs.service.Service.on.Goals as goal

pub actions_of-requires : goal.actions_of-requires
actions_of-requires c = rw (c.transition-change.ensures, c.deref.ensures) (has_room (service_settings_of c.args.settings.now.value) c.args.around c.self.inside.unit c.args.event)

pub next_after-requires : goal.next_after-requires
next_after-requires c = rw (c.transition-change.ensures, c.deref.ensures) (has_room (service_settings_of c.args.settings.now.value) c.args.around c.self.inside.unit c.args.event)

pub returns-clause-unit : goal.returns-clause-unit
returns-clause-unit c =
    ap (λ v. v.unit) (rw c.deref.ensures at c.transition-change.ensures) ∙ ap (λ u. (transition (service_settings_of c.args.settings.now.value) c.args.around u c.args.event).unit) c.self.view_is

pub returns-clause-actions : goal.returns-clause-actions
returns-clause-actions c =
    let settings = service_settings_of c.args.settings.now.value in
    subst (λ v. AreActions settings c.args.around v.unit v.order (map action_of c.in_ok-actions.actions.items))
    ((rw c.deref.ensures at c.transition-change.ensures) ∙ ap (λ u. transition settings c.args.around u c.args.event) c.self.view_is)
    c.in_ok-actions.ensures

pub returns-clause-start : goal.returns-clause-start
returns-clause-start c =
    ap (λ v. v.start) (rw c.deref.ensures at c.transition-change.ensures) ∙ ap (λ u. (transition (service_settings_of c.args.settings.now.value) c.args.around u c.args.event).start) c.self.view_is

pub returns-clause-stop : goal.returns-clause-stop
returns-clause-stop c =
    ap (λ v. v.stop_ends) (rw c.deref.ensures at c.transition-change.ensures) ∙ ap (λ u. (transition (service_settings_of c.args.settings.now.value) c.args.around u c.args.event).stop_ends) c.self.view_is

pub returns-clause-next : goal.returns-clause-next
returns-clause-next c =
    c.next_after.ensures
    ∙ ap (λ k. c.args.around.next + k) (ap (λ v. spawned v.order) (rw c.deref.ensures at c.transition-change.ensures)
    ∙ ap (λ u. spawned (transition (service_settings_of c.args.settings.now.value) c.args.around u c.args.event).order) c.self.view_is)

pub returns-clause-small : goal.returns-clause-small
returns-clause-small c = rw (c.next_after.ensures, c.transition-change.ensures, c.deref.ensures) (next_is_small (service_settings_of c.args.settings.now.value) c.args.around c.self.inside.unit c.args.event)

pub returns-clause-held : goal.returns-clause-held
returns-clause-held c = rw (c.transition-change.ensures, c.deref.ensures, c.self.view_is) (keeps_process (service_settings_of c.args.settings.now.value) c.args.around c.args.self.now c.args.event)
