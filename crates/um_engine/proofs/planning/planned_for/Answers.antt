use Rattle.std.proofs.Common.{◌≡◌, ◌∙◌, Some, None, ap, refl, subst, sym}
use Rattle.um_answer.specs.Loaded.{is_found}
use Rattle.um_falling.specs.Work.{WorkView}
use Rattle.um_model.specs.Machine as model
use Rattle.um_model.specs.Machine.{State}
use Rattle.um_model.specs.Refusals.{at_first}
use Rattle.um_model.specs.Service.{active_state_of, state_of_unit}
use Rattle.um_model.specs.Units.{load}
use Rattle.um_state.specs.View.{state_of}
use Rattle.um_wire.specs.Refusal.{refused_of}
use Rattle.um_wire.specs.declared.refusal.Refusal.TheVariants.{NoMemory}
use Rattle.um_engine.specs.Outcomes.{state_by}
use Rattle.um_engine.proofs.PlannedLaws.{absent_at_rest, free_at_rest, plans_asked, refuses_on, rests_asked}
use Rattle.um_engine.proofs.planning.planned_for.Goals as goal

pub returns-in_err-check_there-clause-refused : goal.returns-in_err-check_there-clause-refused
returns-in_err-check_there-clause-refused c = λ profile.
    let s = c.args.served.now.state in
    let here = c.state-state.ensures.state in
    let unit = c.args.unit.now in
    let same = c.requires.same in
    let is : None ≡ model.demand_of c.args.wanted.now.verb (active_state_of (state_of_unit s.units unit).sub) =
    subst (λ (x : State). None ≡ model.demand_of c.args.wanted.now.verb (active_state_of (state_of_unit x.units unit).sub)) here c.in_default.ensures in
    let e = c.in_err-check_there.field-0.0 in
    refuses_on (model.Refuses profile s (model.ForUnit c.args.wanted.now.verb c.args.wanted.now.asked.now c.args.wanted.now.mode)) c.from_residual-in_err-check_there.result e c.from_residual-in_err-check_there.ensures.1
    (λ differs. absent_at_rest s c.args.wanted.now.verb c.args.wanted.now.asked.now c.args.wanted.now.mode unit same is c.in_ok-known.ensures.refused (refused_of e)
    (subst (λ (x : State). model.IsNotThere x c.args.wanted.now.verb c.args.wanted.now.asked.now (refused_of e)) here (c.in_err-check_there.ensures differs)))

pub returns-in_default-clause-changed : goal.returns-in_default-clause-changed
returns-in_default-clause-changed c = λ profile.
    let s = c.args.served.now.state in
    let here = c.state-state.ensures.state in
    let unit = c.args.unit.now in
    let same = c.requires.same in
    let is : None ≡ model.demand_of c.args.wanted.now.verb (active_state_of (state_of_unit s.units unit).sub) =
    subst (λ (x : State). None ≡ model.demand_of c.args.wanted.now.verb (active_state_of (state_of_unit x.units unit).sub)) here c.in_default.ensures in
    rests_asked s c.args.wanted.now.verb c.args.wanted.now.asked.now c.args.wanted.now.mode unit same is c.in_ok-known.ensures.refused (state_of c.in_ok-work.field-0.now)
    (ap (λ (z : WorkView). state_of z.now) c.in_ok-work.ensures.begins)

pub returns-clause-changed : goal.returns-clause-changed
returns-clause-changed c = λ profile.
    let s = c.args.served.now.state in
    let here = c.state-state.ensures.state in
    let unit = c.args.unit.now in
    let same = c.requires.same in
    let is : Some c.in-Some.demand ≡ model.demand_of c.args.wanted.now.verb (active_state_of (state_of_unit s.units unit).sub) =
    subst (λ (x : State). Some c.in-Some.demand ≡ model.demand_of c.args.wanted.now.verb (active_state_of (state_of_unit x.units unit).sub)) here c.in-Some.ensures in
    plans_asked s c.args.wanted.now.verb c.args.wanted.now.asked.now c.args.wanted.now.mode unit same c.in-Some.demand is (state_by c.in_ok-outcome.outcome) c.in_ok-outcome.ensures.planned

pub returns-in_default-clause-refused : goal.returns-in_default-clause-refused
returns-in_default-clause-refused c = λ profile.
    let s = c.args.served.now.state in
    let here = c.state-state.ensures.state in
    let unit = c.args.unit.now in
    let same = c.requires.same in
    let is : None ≡ model.demand_of c.args.wanted.now.verb (active_state_of (state_of_unit s.units unit).sub) =
    subst (λ (x : State). None ≡ model.demand_of c.args.wanted.now.verb (active_state_of (state_of_unit x.units unit).sub)) here c.in_default.ensures in
    free_at_rest s c.args.wanted.now.verb c.args.wanted.now.asked.now c.args.wanted.now.mode unit same is c.in_ok-known.ensures.refused
    (λ q. subst (λ (x : State). ¬ model.IsNotThere x c.args.wanted.now.verb c.args.wanted.now.asked.now q) here (c.in_ok-check_there.ensures q))

pub returns-in_err-known-clause-refused : goal.returns-in_err-known-clause-refused
returns-in_err-known-clause-refused c = λ profile.
    let s = c.args.served.now.state in
    let here = c.state-state.ensures.state in
    let unit = c.args.unit.now in
    let same = c.requires.same in
    let e = c.in_err-known.field-0.0 in
    refuses_on (model.Refuses profile s (model.ForUnit c.args.wanted.now.verb c.args.wanted.now.asked.now c.args.wanted.now.mode)) c.from_residual.result e c.from_residual.ensures.1
    (λ differs. at_first (model.by_name (subst (λ x. model.IsCrowded s.loaded (model.IsHeldOr s x) (refused_of e)) same (c.in_err-known.ensures.refused differs))))

pub returns-in_err-work-clause-refused : goal.returns-in_err-work-clause-refused
returns-in_err-work-clause-refused c = λ profile.
    refuses_on (model.Refuses profile c.args.served.now.state (model.ForUnit c.args.wanted.now.verb c.args.wanted.now.asked.now c.args.wanted.now.mode)) c.from_residual-in_err-work.result NoMemory c.from_residual-in_err-work.ensures.1
    (λ differs. absurd (differs refl))

pub returns-in_err-outcome-clause-refused : goal.returns-in_err-outcome-clause-refused
returns-in_err-outcome-clause-refused c = λ profile.
    refuses_on (model.Refuses profile c.args.served.now.state (model.ForUnit c.args.wanted.now.verb c.args.wanted.now.asked.now c.args.wanted.now.mode)) c.from_residual-in_err-outcome.result c.in_err-outcome.field-0.0
    c.from_residual-in_err-outcome.ensures.1 (c.in_err-outcome.ensures.refused profile)

pub planned_by-requires-clause-demands : goal.planned_by-requires-clause-demands
planned_by-requires-clause-demands c =
    let s = c.args.served.now.state in
    let here = c.state-state.ensures.state in
    let unit = c.args.unit.now in
    let same = c.requires.same in
    record {
      same = same;
      demanded = subst (λ (x : State). Some c.in-Some.demand ≡ model.demand_of c.args.wanted.now.verb (active_state_of (state_of_unit x.units unit).sub)) here c.in-Some.ensures;
      few = c.in_ok-known.ensures.refused;
      finds = c.requires.finds;
    }

pub check_there-requires : goal.check_there-requires
check_there-requires c = c.requires.finds ∙ sym (ap (λ (x : State). is_found (load x.loaded c.args.wanted.now.asked.now)) c.state-state.ensures.state)

pub returns-in_default-clause-based : goal.returns-in_default-clause-based
returns-in_default-clause-based c = (c.in_ok-work.ensures.works, ap (λ (z : WorkView). z.moment) c.in_ok-work.ensures.begins)

pub returns-in_default-clause-silent : goal.returns-in_default-clause-silent
returns-in_default-clause-silent c = record { reply = refl; actions = ap (λ (z : WorkView). z.actions) c.in_ok-work.ensures.begins }

pub returns-clause-based : goal.returns-clause-based
returns-clause-based c = c.in_ok-outcome.ensures.based

pub returns-clause-silent : goal.returns-clause-silent
returns-clause-silent c = c.in_ok-outcome.ensures.silent

pub returns-clause-refused : goal.returns-clause-refused
returns-clause-refused c = λ profile. c.in_ok-outcome.ensures.refused profile
