use Rattle.std.proofs.Common.{◌∙◌, ℕ, List, ap, refl, subst, sym}
use Rattle.um_falling.specs.Work.{WorkView}
use Rattle.um_model.specs.Machine.{State}
use Rattle.um_model.specs.declared.dependencies.Demand.{Demand}
use Rattle.um_wire.specs.declared.refusal.Refusal.TheVariants.{NoMemory}
use Rattle.um_engine.specs.Planned.{HasPlan}
use Rattle.um_model.specs.Machine as model
use Rattle.um_state.specs.View.{state_of}
use Rattle.um_engine.specs.Known.{KnownView}
use Rattle.um_engine.proofs.FitsLaws.{fits_here}
use Rattle.um_engine.proofs.PlannedLaws.{refuses_on}
use Rattle.um_engine.proofs.planning.planned_by.Goals as goal

pub returns-in_err-work-clause-refused : goal.returns-in_err-work-clause-refused
returns-in_err-work-clause-refused c = λ profile.
    refuses_on (model.Refuses profile c.args.served.now.state (model.ForUnit c.args.wanted.now.verb c.args.wanted.now.asked.now c.args.wanted.now.mode)) c.from_residual.result c.in_err-work.field-0.0 c.from_residual.ensures.1 (c.in_err-work.ensures.refused profile)

pub returns-in_err-planned-clause-refused : goal.returns-in_err-planned-clause-refused
returns-in_err-planned-clause-refused c = λ profile.
    refuses_on (model.Refuses profile c.args.served.now.state (model.ForUnit c.args.wanted.now.verb c.args.wanted.now.asked.now c.args.wanted.now.mode)) c.from_residual-in_err-planned.result c.in_err-planned.field-0.0 c.from_residual-in_err-planned.ensures.1 (c.in_err-planned.ensures.refused profile)

pub planned_in-requires-clause-exact : goal.planned_in-requires-clause-exact
planned_in-requires-clause-exact c =
    fits_here c.args.served.now.known c.known.result.now c.args.served.now.state (state_of c.state.result.now) c.args.unit.now c.known.ensures.known c.state.ensures.state c.known.ensures.knows
    (c.fits.ensures.graph c.if-fits.true)

pub lasts_in-requires : goal.lasts_in-requires
lasts_in-requires c = c.in_ok-work.ensures.works.graph ∙ sym (ap (λ (k : KnownView). k.graph) c.known-then-fits.ensures.known)

pub returns-then-lasts_in-clause-planned : goal.returns-then-lasts_in-clause-planned
returns-then-lasts_in-clause-planned c = c.in_ok-work.ensures.planned

pub returns-then-lasts_in-clause-based : goal.returns-then-lasts_in-clause-based
returns-then-lasts_in-clause-based c = (c.in_ok-work.ensures.works, c.in_ok-work.ensures.moment)

pub returns-then-lasts_in-clause-silent : goal.returns-then-lasts_in-clause-silent
returns-then-lasts_in-clause-silent c = record { reply = refl; actions = c.in_ok-work.ensures.actions }

pub returns-then-lasts_in-clause-refused : goal.returns-then-lasts_in-clause-refused
returns-then-lasts_in-clause-refused c = λ profile. c.in_ok-work.ensures.refused profile

pub returns-in_default-clause-planned : goal.returns-in_default-clause-planned
returns-in_default-clause-planned c =
    let root : Demand × List ℕ = (c.args.demand, c.args.unit.now) in
    subst (HasPlan c.args.served.now.state root) (sym (ap (λ (z : WorkView). state_of z.now) c.in_ok-work-2.ensures.begins)) (rw c.in_default.is at c.in_ok-planned.ensures.planned)

pub returns-in_default-clause-silent : goal.returns-in_default-clause-silent
returns-in_default-clause-silent c = record { reply = refl; actions = ap (λ (z : WorkView). z.actions) c.in_ok-work-2.ensures.begins }

pub returns-in_default-clause-based : goal.returns-in_default-clause-based
returns-in_default-clause-based c = (c.in_ok-work-2.ensures.works, ap (λ (z : WorkView). z.moment) c.in_ok-work-2.ensures.begins)

pub returns-clause-based : goal.returns-clause-based
returns-clause-based c =
    let plan = rw c.in-Some.is at c.in_ok-planned.ensures.planned in
    record { tree = ap (λ (x : State). x.tree) plan.rest; loaded = ap (λ (x : State). x.loaded) plan.rest; boot = ap (λ (x : State). x.boot) plan.rest }

pub returns-in_err-work-2-clause-refused : goal.returns-in_err-work-2-clause-refused
returns-in_err-work-2-clause-refused c = λ profile.
    let wanted = c.args.wanted.now in
    refuses_on (model.Refuses profile c.args.served.now.state (model.ForUnit wanted.verb wanted.asked.now wanted.mode)) c.from_residual-in_err-work-2.result NoMemory
    c.from_residual-in_err-work-2.ensures.1 (λ differs. absurd (differs refl))
