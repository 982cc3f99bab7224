use Rattle.std.proofs.Common.{◌≡◌, ◌∙◌, ap, map, subst}
use Rattle.um_falling.proofs.Carried.{process_known}
use Rattle.um_model.specs.Machine as model
use Rattle.um_model.specs.Machine.{IsProcessOf, State}
use Rattle.um_model.specs.Service.{state_of_unit}
use Rattle.um_state.specs.View.{action_of}
use Rattle.um_engine.specs.Served.{standing_of}
use Rattle.um_engine.proofs.DoneLaws.{end_met}
use Rattle.um_engine.proofs.KnownLaws.{serves_for}
use Rattle.um_engine.proofs.happenings.after_end.Goals as goal

pub returns-in-None-clause-met : goal.returns-in-None-clause-met
returns-in-None-clause-met c =
    (model.is_over (subst (λ (s : State). model.IsOver s.units c.args.number) c.state.ensures.state (rw c.units-units.ensures at c.in-None.ensures)), ap (map action_of) c.new.ensures.items)

pub after_happening-requires : goal.after_happening-requires
after_happening-requires c =
    let v = c.args.served.now in
    let process : IsProcessOf v.state.units c.args.number c.in-Some.unit.now =
    subst (λ (s : State). IsProcessOf s.units c.args.number c.in-Some.unit.now) c.state.ensures.state (rw c.units-units.ensures at c.in-Some.ensures) in
    process_known v.known.graph v.state c.in-Some.unit.now c.args.number (serves_for v.known v.state c.state.ensures.knows) process.has

pub returns-clause-met : goal.returns-clause-met
returns-clause-met c =
    let v = c.args.served.now in
    let unit = c.in-Some.unit.now in
    let process : IsProcessOf v.state.units c.args.number unit =
    subst (λ (s : State). IsProcessOf s.units c.args.number unit) c.state.ensures.state (rw c.units-units.ensures at c.in-Some.ensures) in
    let event : c.end_of-event.result ≡ model.end_of (state_of_unit v.state.units unit) c.args.number c.args.end =
    c.end_of-event.ensures
    ∙ ap (λ u. model.end_of u c.args.number c.args.end)
    (c.get.ensures.state ∙ (ap (λ units. state_of_unit units unit) c.units-units.ensures ∙ ap (λ (s : State). state_of_unit s.units unit) c.state.ensures.state)) in
    end_met c.args.moment (standing_of v) c.args.number c.args.end unit c.end_of-event.result c.in_ok-change.change (map action_of c.in_ok-change.actions.items)
    process event c.in_ok-change.ensures.does
