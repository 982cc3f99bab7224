use Rattle.std.proofs.Common.{◌≡◌, ◌≢◌, ◌∙◌, None, true≢false, ap, refl, sym, subst}
use Rattle.std.specs.FinMap as map
use Rattle.um_falling.specs.Work.{WorkView}
use Rattle.um_model.specs.Live.{HoldsNoMore}
use Rattle.um_model.specs.Machine as model
use Rattle.um_model.specs.Machine.{State}
use Rattle.um_model.specs.Profiles.{current}
use Rattle.um_model.specs.Refusals.{Refused}
use Rattle.um_model.specs.Tree.{remove_cause}
use Rattle.um_state.specs.View.{state_of}
use Rattle.um_wire.specs.Refusal.{refused_of}
use Rattle.um_wire.specs.declared.refusal.Refusal.TheVariants.{NoMemory}
use Rattle.um_engine.proofs.KnownLaws.{remove_holds_no_more}
use Rattle.um_engine.proofs.PlannedLaws.{refuses_on}
use Rattle.um_engine.proofs.PutLaws.{removed_differs}
use Rattle.um_engine.proofs.commands.removed.Goals as goal

pub returns-in_err-check_remove-clause-refused : goal.returns-in_err-check_remove-clause-refused
returns-in_err-check_remove-clause-refused c = λ profile.
    let e = c.in_err-check_remove.field-0.0 in
    refuses_on (model.Refuses profile c.args.served.now.state (model.Remove c.args.path.now)) c.from_residual.result e c.from_residual.ensures.1
    (subst (λ (x : State). e ≢ NoMemory → model.Refuses profile x (model.Remove c.args.path.now) (refused_of e)) c.state-state.ensures.state c.in_err-check_remove.ensures.refused)

pub returns-in_err-changed-clause-refused : goal.returns-in_err-changed-clause-refused
returns-in_err-changed-clause-refused c = λ profile.
    let e = c.in_err-changed.field-0.0 in
    refuses_on (model.Refuses profile c.args.served.now.state (model.Remove c.args.path.now)) c.from_residual-in_err-changed.result e c.from_residual-in_err-changed.ensures.1
    (subst (λ (x : State). e ≢ NoMemory → model.Refuses profile x (model.Remove c.args.path.now) (refused_of e)) c.state-state.ensures.state (c.in_err-changed.ensures.refused profile))

pub kept-requires : goal.kept-requires
kept-requires c =
    let u = state_of c.in_ok-changed.changed in
    subst (λ (s : State). HoldsNoMore s u) c.state-state.ensures.state (remove_holds_no_more (state_of c.state-state.result.now) u _ (c.in_ok-changed.ensures.changed current))

pub returns-clause-changed : goal.returns-clause-changed
returns-clause-changed c = λ profile.
    subst (model.Changes profile c.args.served.now.state (model.Remove c.args.path.now)) (sym c.in_ok-kept.ensures)
    (subst (λ (x : State). model.Changes profile x (model.Remove c.args.path.now) (state_of c.in_ok-changed.changed)) c.state-state.ensures.state (c.in_ok-changed.ensures.changed profile))

pub returns-clause-silent : goal.returns-clause-silent
returns-clause-silent c = record { reply = refl; actions = refl }

pub returns-clause-refused : goal.returns-clause-refused
returns-clause-refused c = λ profile.
    subst (λ (x : State). (r : Refused) → ¬ model.Refuses profile x (model.Remove c.args.path.now) r) c.state-state.ensures.state (c.in_ok-changed.ensures.refused profile)

pub returns-clause-based : goal.returns-clause-based
returns-clause-based c = λ t same.
    removed_differs c.args.served.now.state (state_of c.in_ok-changed.changed) c.args.path.now (subst (λ (x : State). remove_cause x.tree c.args.path.now ≡ None) c.state-state.ensures.state c.in_ok-check_remove.ensures.ok) (subst (λ (x : State). model.Changes current x (model.Remove c.args.path.now) (state_of c.in_ok-changed.changed)) c.state-state.ensures.state (c.in_ok-changed.ensures.changed current))
    (sym (ap (λ (x : State). x.tree) c.in_ok-kept.ensures) ∙ same)
