use Rattle.std.proofs.Common.{◌≡◌, ◌∙◌, ap, refl, sym, subst}
use Rattle.um_model.specs.Machine as model
use Rattle.um_model.specs.Machine.{State}
use Rattle.um_model.specs.Profiles.{ReadTree}
use Rattle.um_model.specs.Tree.{Tree}
use Rattle.um_model.specs.declared.profile.Profile.{Profile}
use Rattle.um_model.specs.Refusals.{Refused}
use Rattle.um_state.specs.View.{state_of}
use Rattle.um_wire.specs.Refusal.{refused_of}
use Rattle.um_wire.specs.declared.refusal.Refusal.TheVariants.{NoMemory}
use Rattle.um_engine.proofs.Causes.{free_to_reload, reloads_to}
use Rattle.um_engine.specs.Known.{KnownView, KnowsFor}
use Rattle.um_engine.proofs.KnownLaws.{knows_loaded}
use Rattle.um_engine.proofs.PlannedLaws.{refuses_on}
use Rattle.um_engine.proofs.commands.reloaded.Goals as goal

-- the loaded tree is the tree in hand
loads : (profile : Profile) (s : State) (tree : ReadTree) (hand : Tree) → tree ≡ model.as_loaded profile s hand → hand ≡ s.tree → tree ≡ model.as_loaded profile s s.tree
loads profile s tree hand is same = is ∙ ap (model.as_loaded profile s) same

pub returns-in_err-known-clause-refused : goal.returns-in_err-known-clause-refused
returns-in_err-known-clause-refused c =
    let s = state_of c.args.state.now in
    let e = c.in_err-known.field-0.0 in
    refuses_on (model.Refuses c.args.profile s model.DaemonReload) c.from_residual.result e c.from_residual.ensures.1
    (λ differs. subst (λ t. model.CausesOfLoad s t (refused_of e)) (loads c.args.profile s _ _ c.as_loaded.ensures c.tree.ensures) (c.in_err-known.ensures.refused differs))

pub returns-in_err-changed-clause-refused : goal.returns-in_err-changed-clause-refused
returns-in_err-changed-clause-refused c =
    refuses_on (model.Refuses c.args.profile (state_of c.args.state.now) model.DaemonReload) c.from_residual-in_err-changed.result NoMemory c.from_residual-in_err-changed.ensures.1
    (λ differs. absurd (differs refl))

pub returns-in_err-numbered-clause-refused : goal.returns-in_err-numbered-clause-refused
returns-in_err-numbered-clause-refused c =
    refuses_on (model.Refuses c.args.profile (state_of c.args.state.now) model.DaemonReload) c.from_residual-in_err-numbered.result NoMemory c.from_residual-in_err-numbered.ensures.1
    (λ differs. absurd (differs refl))

pub numbered-requires : goal.numbered-requires
numbered-requires c =
    let s = state_of c.args.state.now in
    let k : KnownView = c.in_ok-known.known.value in
    knows_loaded k s (state_of c.in_ok-changed.changed) s.tree (model.as_loaded c.args.profile s s.tree)
    (subst (λ t. KnowsFor k (record s { loaded = t })) (loads c.args.profile s _ _ c.as_loaded.ensures c.tree.ensures) c.in_ok-known.ensures.knows) c.in_ok-changed.ensures

pub returns-clause-changed : goal.returns-clause-changed
returns-clause-changed c =
    let s = state_of c.args.state.now in
    subst (model.Changes c.args.profile s model.DaemonReload) (sym c.in_ok-numbered.ensures.state) (reloads_to c.args.profile s s (state_of c.in_ok-changed.changed) refl c.in_ok-changed.ensures)

pub returns-clause-refused : goal.returns-clause-refused
returns-clause-refused c =
    let s = state_of c.args.state.now in
    free_to_reload c.args.profile s (subst (λ t. (r : Refused) → ¬ model.CausesOfLoad s t r) (loads c.args.profile s _ _ c.as_loaded.ensures c.tree.ensures) c.in_ok-known.ensures.refused)
