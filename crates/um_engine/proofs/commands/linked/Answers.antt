use Rattle.std.proofs.Common.{◌≡◌, ◌≢◌, ◌∙◌, None, true≢false, ap, refl, sym, subst}
use Rattle.std.specs.FinMap as map
use Rattle.um_falling.specs.Work.{WorkView}
use Rattle.um_model.specs.Live.{HoldsNoMore}
use Rattle.um_model.specs.Machine as model
use Rattle.um_model.specs.Machine.{State}
use Rattle.um_model.specs.Profiles.{current}
use Rattle.um_model.specs.Refusals.{Refused}
use Rattle.um_model.specs.Tree.{Link, link_cause}
use Rattle.um_state.specs.View.{state_of}
use Rattle.um_wire.specs.Refusal.{refused_of}
use Rattle.um_wire.specs.declared.refusal.Refusal.TheVariants.{NoMemory}
use Rattle.um_engine.proofs.KnownLaws.{link_holds_no_more}
use Rattle.um_engine.proofs.PlannedLaws.{refuses_on}
use Rattle.um_engine.proofs.PutLaws.{link_free, link_stands, link_differs}
use Rattle.um_engine.proofs.commands.linked.Goals as goal

pub returns-in_err-check_link-clause-refused : goal.returns-in_err-check_link-clause-refused
returns-in_err-check_link-clause-refused c = λ profile.
    let e = c.in_err-check_link.field-0.0 in
    refuses_on (model.Refuses profile c.args.served.now.state (model.PutLink c.args.path.now c.args.target.now)) c.from_residual.result e c.from_residual.ensures.1
    (subst (λ (x : State). e ≢ NoMemory → model.Refuses profile x (model.PutLink c.args.path.now c.args.target.now) (refused_of e)) c.state-state.ensures.state c.in_err-check_link.ensures.refused)

pub returns-then-has_entry-clause-changed : goal.returns-then-has_entry-clause-changed
returns-then-has_entry-clause-changed c = λ profile.
    link_stands c.args.served.now.state c.args.path.now c.args.target.now (subst (λ (x : State). link_cause x.tree c.args.path.now c.args.target.now ≡ None) c.state-state.ensures.state c.in_ok-check_link.ensures.ok) (state_of c.in_ok-work.field-0.now)
    (ap (λ (t : _). map.get t c.args.path.now) (sym (c.tree.ensures ∙ ap (λ (x : State). x.tree) c.state-state.ensures.state)) ∙ c.has_entry.ensures.0 c.if-has_entry.true)
    (ap (λ (z : WorkView). state_of z.now) c.in_ok-work.ensures.begins)

pub returns-then-has_entry-clause-silent : goal.returns-then-has_entry-clause-silent
returns-then-has_entry-clause-silent c = record { reply = refl; actions = ap (λ (z : WorkView). z.actions) c.in_ok-work.ensures.begins }

pub returns-then-has_entry-clause-based : goal.returns-then-has_entry-clause-based
returns-then-has_entry-clause-based c = (c.in_ok-work.ensures.works, ap (λ (z : WorkView). z.moment) c.in_ok-work.ensures.begins)

pub returns-then-has_entry-clause-refused : goal.returns-then-has_entry-clause-refused
returns-then-has_entry-clause-refused c = λ profile. link_free c.args.served.now.state c.args.path.now c.args.target.now (subst (λ (x : State). link_cause x.tree c.args.path.now c.args.target.now ≡ None) c.state-state.ensures.state c.in_ok-check_link.ensures.ok)

pub returns-in_err-changed-clause-refused : goal.returns-in_err-changed-clause-refused
returns-in_err-changed-clause-refused c = λ profile.
    let e = c.in_err-changed.field-0.0 in
    refuses_on (model.Refuses profile c.args.served.now.state (model.PutLink c.args.path.now c.args.target.now)) c.from_residual-in_err-changed.result e c.from_residual-in_err-changed.ensures.1
    (subst (λ (x : State). e ≢ NoMemory → model.Refuses profile x (model.PutLink c.args.path.now c.args.target.now) (refused_of e)) c.state-state.ensures.state (c.in_err-changed.ensures.refused profile))

pub kept-requires : goal.kept-requires
kept-requires c =
    let u = state_of c.in_ok-changed.changed in
    subst (λ (s : State). HoldsNoMore s u) c.state-state.ensures.state (link_holds_no_more (state_of c.state-state.result.now) u _ _ (c.in_ok-changed.ensures.changed current))

pub returns-clause-changed : goal.returns-clause-changed
returns-clause-changed c = λ profile.
    subst (model.Changes profile c.args.served.now.state (model.PutLink c.args.path.now c.args.target.now)) (sym c.in_ok-kept.ensures)
    (subst (λ (x : State). model.Changes profile x (model.PutLink c.args.path.now c.args.target.now) (state_of c.in_ok-changed.changed)) c.state-state.ensures.state (c.in_ok-changed.ensures.changed profile))

pub returns-clause-silent : goal.returns-clause-silent
returns-clause-silent c = record { reply = refl; actions = refl }

pub returns-clause-refused : goal.returns-clause-refused
returns-clause-refused c = λ profile.
    subst (λ (x : State). (r : Refused) → ¬ model.Refuses profile x (model.PutLink c.args.path.now c.args.target.now) r) c.state-state.ensures.state (c.in_ok-changed.ensures.refused profile)

pub returns-clause-based : goal.returns-clause-based
returns-clause-based c =
    let s = c.args.served.now.state in
    let tree = c.tree.ensures ∙ ap (λ (x : State). x.tree) c.state-state.ensures.state in
    let other : ¬ (map.get s.tree c.args.path.now ≡ _) = λ there. true≢false (sym (c.has_entry.ensures.1 (ap (λ (t : _). map.get t c.args.path.now) tree ∙ there)) ∙ c.if-has_entry.false) in
    λ same. link_differs s c.args.path.now c.args.target.now (subst (λ (x : State). link_cause x.tree c.args.path.now c.args.target.now ≡ None) c.state-state.ensures.state c.in_ok-check_link.ensures.ok)
    (state_of c.in_ok-changed.changed) other (subst (λ (x : State). model.Changes current x (model.PutLink c.args.path.now c.args.target.now) (state_of c.in_ok-changed.changed)) c.state-state.ensures.state (c.in_ok-changed.ensures.changed current)) (sym (ap (λ (x : State). x.tree) c.in_ok-kept.ensures) ∙ same)
