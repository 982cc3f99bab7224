use Rattle.std.proofs.Common.{◌∙◌, refl, ap, sym}
use Rattle.um_falling.specs.Work.{WorkView}
use Rattle.um_model.specs.Machine as model
use Rattle.um_wire.specs.declared.refusal.Refusal.TheVariants.{NoMemory}
use Rattle.um_engine.specs.Served.{begun_at, standing_of}
use Rattle.um_engine.proofs.PlannedLaws.{refuses_on}
use Rattle.um_engine.proofs.planning.planned_in.Goals as goal

pub plan_in-requires-clause-demands : goal.plan_in-requires-clause-demands
plan_in-requires-clause-demands c = c.requires.demands

pub plan_in-requires-clause-exact : goal.plan_in-requires-clause-exact
plan_in-requires-clause-exact c = c.requires.exact

pub plan_in-requires-clause-begins : goal.plan_in-requires-clause-begins
plan_in-requires-clause-begins c =
    let v = c.args.served.now in
    c.in_ok-work.ensures.begins ∙ ap (begun_at (standing_of v) v.known.graph) (sym (ap (λ (z : WorkView). z.moment) c.in_ok-work.ensures.begins))

pub plan_in-requires-clause-works : goal.plan_in-requires-clause-works
plan_in-requires-clause-works c = c.in_ok-work.ensures.works

pub returns-in_err-work-clause-refused : goal.returns-in_err-work-clause-refused
returns-in_err-work-clause-refused c = λ profile.
    let wanted = c.args.wanted.now in
    refuses_on (model.Refuses profile c.args.served.now.state (model.ForUnit wanted.verb wanted.asked.now wanted.mode)) c.from_residual.result NoMemory c.from_residual.ensures.1 (λ differs. absurd (differs refl))

pub returns-in_err-plan_in-clause-refused : goal.returns-in_err-plan_in-clause-refused
returns-in_err-plan_in-clause-refused c = λ profile.
    let wanted = c.args.wanted.now in
    refuses_on (model.Refuses profile c.args.served.now.state (model.ForUnit wanted.verb wanted.asked.now wanted.mode)) c.from_residual-in_err-plan_in.result c.in_err-plan_in.field-0.0
    c.from_residual-in_err-plan_in.ensures.1 (c.in_err-plan_in.ensures.refused profile)

pub returns-clause-planned : goal.returns-clause-planned
returns-clause-planned c = c.in_ok-plan_in.ensures.planned

pub returns-clause-works : goal.returns-clause-works
returns-clause-works c = c.in_ok-plan_in.ensures.works

pub returns-clause-moment : goal.returns-clause-moment
returns-clause-moment c = c.in_ok-plan_in.ensures.moment ∙ ap (λ (z : WorkView). z.moment) c.in_ok-work.ensures.begins

pub returns-clause-actions : goal.returns-clause-actions
returns-clause-actions c = c.in_ok-plan_in.ensures.actions ∙ ap (λ (z : WorkView). z.actions) c.in_ok-work.ensures.begins

pub returns-clause-refused : goal.returns-clause-refused
returns-clause-refused c = λ profile. c.in_ok-plan_in.ensures.refused profile
