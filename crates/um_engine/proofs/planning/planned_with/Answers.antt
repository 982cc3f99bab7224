use Rattle.std.proofs.Common.{◌≡◌, ◌≢◌, ◌∙◌, refl, subst, sym}
use Rattle.um_model.specs.Machine as model
use Rattle.um_model.specs.Machine.{State, IsHeldOr}
use Rattle.um_model.specs.Refusals.{Refused}
use Rattle.um_wire.specs.Refusal.{refused_of}
use Rattle.um_wire.specs.declared.refusal.Refusal.TheVariants.{NoMemory}
use Rattle.um_engine.specs.Demanded.{Demands}
use Rattle.um_engine.specs.Known.{IsGraphFor, KnownView, KnowsFor}
use Rattle.um_engine.specs.Planned.{HasPlan}
use Rattle.um_engine.proofs.PlannedLaws.{refuses_on}
use Rattle.um_engine.proofs.planning.planned_with.Goals as goal

pub numbered-requires : goal.numbered-requires
numbered-requires c = subst (KnowsFor c.args.known.value) (sym (c.in_ok-state.ensures ∙ c.state.ensures.state)) c.requires.knows

pub carry_out-requires-clause-demands : goal.carry_out-requires-clause-demands
carry_out-requires-clause-demands c =
    let wanted = c.args.wanted.now in
    let same : c.in_ok-changed.changed.state ≡ c.args.served.now.state = c.in_ok-changed.ensures.state ∙ (c.in_ok-state.ensures ∙ c.state.ensures.state) in
    subst (λ (s : State). Demands s wanted.verb wanted.asked.now wanted.is_found c.args.demand c.args.unit.now) (sym same) c.requires.demands

pub carry_out-requires-clause-exact : goal.carry_out-requires-clause-exact
carry_out-requires-clause-exact c =
    let unit = c.args.unit.now in
    let same : c.in_ok-changed.changed.state ≡ c.args.served.now.state = c.in_ok-changed.ensures.state ∙ (c.in_ok-state.ensures ∙ c.state.ensures.state) in
    subst (λ (s : State). IsGraphFor s.loaded (IsHeldOr s unit) c.in_ok-changed.changed.known.graph) (sym same)
    (subst (λ (k : KnownView). IsGraphFor c.args.served.now.state.loaded (IsHeldOr c.args.served.now.state unit) k.graph) (sym c.in_ok-changed.ensures.known) c.requires.exact)

pub returns-in_err-state-clause-refused : goal.returns-in_err-state-clause-refused
returns-in_err-state-clause-refused c = λ profile.
    let wanted = c.args.wanted.now in
    refuses_on (model.Refuses profile c.args.served.now.state (model.ForUnit wanted.verb wanted.asked.now wanted.mode)) c.from_residual.result NoMemory c.from_residual.ensures.1 (λ differs. absurd (differs refl))

pub returns-in_err-changed-clause-refused : goal.returns-in_err-changed-clause-refused
returns-in_err-changed-clause-refused c = λ profile.
    let wanted = c.args.wanted.now in
    refuses_on (model.Refuses profile c.args.served.now.state (model.ForUnit wanted.verb wanted.asked.now wanted.mode)) c.from_residual-in_err-changed.result NoMemory c.from_residual-in_err-changed.ensures.1
    (λ differs. absurd (differs refl))

pub returns-in_err-changes-clause-refused : goal.returns-in_err-changes-clause-refused
returns-in_err-changes-clause-refused c = λ profile.
    let wanted = c.args.wanted.now in
    let same : c.in_ok-changed.changed.state ≡ c.args.served.now.state = c.in_ok-changed.ensures.state ∙ (c.in_ok-state.ensures ∙ c.state.ensures.state) in
    let e = c.in_err-changes.field-0.0 in
    refuses_on (model.Refuses profile c.args.served.now.state (model.ForUnit wanted.verb wanted.asked.now wanted.mode)) c.from_residual-in_err-changes.result e c.from_residual-in_err-changes.ensures.1
    (subst (λ (s : State). e ≢ NoMemory → model.Refuses profile s (model.ForUnit wanted.verb wanted.asked.now wanted.mode) (refused_of e)) same (c.in_err-changes.ensures.refused profile))

pub returns-then-changes-clause-planned : goal.returns-then-changes-clause-planned
returns-then-changes-clause-planned c =
    let same : c.in_ok-changed.changed.state ≡ c.args.served.now.state = c.in_ok-changed.ensures.state ∙ (c.in_ok-state.ensures ∙ c.state.ensures.state) in
    subst (λ (s : State). HasPlan s (c.args.demand, c.args.unit.now) c.carry_out.new.served.state) same c.in_ok-changes.ensures.planned

pub returns-then-changes-clause-refused : goal.returns-then-changes-clause-refused
returns-then-changes-clause-refused c = λ profile.
    let wanted = c.args.wanted.now in
    let same : c.in_ok-changed.changed.state ≡ c.args.served.now.state = c.in_ok-changed.ensures.state ∙ (c.in_ok-state.ensures ∙ c.state.ensures.state) in
    subst (λ (s : State). (r : Refused) → ¬ model.Refuses profile s (model.ForUnit wanted.verb wanted.asked.now wanted.mode) r) same (c.in_ok-changes.ensures.refused profile)

pub returns-clause-planned : goal.returns-clause-planned
returns-clause-planned c =
    let same : c.in_ok-changed.changed.state ≡ c.args.served.now.state = c.in_ok-changed.ensures.state ∙ (c.in_ok-state.ensures ∙ c.state.ensures.state) in
    subst (HasPlan c.args.served.now.state (c.args.demand, c.args.unit.now)) (c.in_ok-changes.ensures.same c.if-changes.false ∙ same)
    (subst (λ (s : State). HasPlan s (c.args.demand, c.args.unit.now) c.carry_out.new.served.state) same c.in_ok-changes.ensures.planned)

pub returns-clause-refused : goal.returns-clause-refused
returns-clause-refused c = λ profile.
    let wanted = c.args.wanted.now in
    let same : c.in_ok-changed.changed.state ≡ c.args.served.now.state = c.in_ok-changed.ensures.state ∙ (c.in_ok-state.ensures ∙ c.state.ensures.state) in
    subst (λ (s : State). (r : Refused) → ¬ model.Refuses profile s (model.ForUnit wanted.verb wanted.asked.now wanted.mode) r) same (c.in_ok-changes.ensures.refused profile)
