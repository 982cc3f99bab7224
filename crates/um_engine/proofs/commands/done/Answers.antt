use Rattle.std.proofs.Common.{◌≡◌, ◌≢◌, ◌∙◌, ℕ, List, [], Result, ap, refl, subst, sym}
use Rattle.um_model.specs.Machine as model
use Rattle.um_model.specs.Machine.{State, Command}
use Rattle.um_model.specs.Refusals.{Refused}
use Rattle.um_model.specs.declared.profile.Profile.{Profile}
use Rattle.um_model.specs.Tree.{Tree}
use Rattle.std.specs.Result.{IsErrAnd}
use Rattle.um_wire.specs.Gives.{RefusesBy}
use Rattle.um_wire.specs.Refusal.{refused_of}
use Rattle.um_wire.specs.declared.refusal.Refusal.{Refusal}
use Rattle.um_wire.specs.declared.refusal.Refusal.TheVariants.{NoMemory}
use Rattle.um_state.specs.View.{command_of, reply_of, state_of}
use Rattle.um_engine.specs.Outcomes.{actions_by, state_by}
use Rattle.um_engine.proofs.PlannedLaws.{refuses_on}
use Rattle.um_engine.proofs.Stepped.{does_so}
use Rattle.um_engine.proofs.commands.done.Goals as goal

-- a property of the command in the engine's state is a property in the served value
at_command : (P : State → Command → Type 0) (x s : State) (command q : Command) → x ≡ s → q ≡ command → P x command → P s q
at_command P x s command q here is h = subst (λ (y : State). P y q) here (subst (P x) (sym is) h)

-- a call that passes on the command's refusal
gives_on : {X : Type 0} (profile : Profile) (x s : State) (command q : Command) (result : Result X Refusal) (e : Refusal) → x ≡ s → q ≡ command → IsErrAnd result (λ f. f ≡ e)
    → (e ≢ NoMemory → model.Refuses profile x command (refused_of e)) → RefusesBy (model.Refuses profile s q) result
gives_on profile x s command q result e here is on cause =
    refuses_on (model.Refuses profile s q) result e on (at_command (λ y p. e ≢ NoMemory → model.Refuses profile y p (refused_of e)) x s command q here is cause)

-- a command that isn't refused
free_of : (profile : Profile) (x s : State) (command q : Command) → x ≡ s → q ≡ command → ((r : Refused) → ¬ model.Refuses profile x command r) → (r : Refused) → ¬ model.Refuses profile s q r
free_of profile x s command q here is free = at_command (λ y p. (r : Refused) → ¬ model.Refuses profile y p r) x s command q here is free

-- the command as it is read
puts : (q : Command) (path path' text text' : List ℕ) → q ≡ model.PutFile path text → path' ≡ path → text' ≡ text → q ≡ model.PutFile path' text'
puts q path path' text text' is e f = cc

links : (q : Command) (path path' target target' : List ℕ) → q ≡ model.PutLink path target → path' ≡ path → target' ≡ target → q ≡ model.PutLink path' target'
links q path path' target target' is e f = cc

removes : (q : Command) (path path' : List ℕ) → q ≡ model.Remove path → path' ≡ path → q ≡ model.Remove path'
removes q path path' is e = cc

-- the answer, where it is nothing but Done
answers : (q command : Command) (before after : Tree) → q ≡ command → model.reply_after (model.Commanded command) before after ≡ model.Done
    → model.Done ≡ model.reply_after (model.Commanded q) before after
answers q command before after is done = sym (subst (λ (p : Command). model.reply_after (model.Commanded p) before after ≡ model.Done) (sym is) done)

pub returns-in_ok-reloaded-in-DaemonReload-clause-does : goal.returns-in_ok-reloaded-in-DaemonReload-clause-does
returns-in_ok-reloaded-in-DaemonReload-clause-does c =
    let u = c.in_ok-reloaded-in-DaemonReload.field-0.state in
    let told = at_command (λ x q. model.Changes c.args.profile x q u) (state_of c.state-state.result.now) c.args.served.now.state model.DaemonReload (command_of c.args.command.now) c.state-state.ensures.state (ap command_of c.in-DaemonReload.is) c.in_ok-reloaded-in-DaemonReload.ensures.changed in
    does_so c.args.moment c.args.served.now.state u u (command_of c.args.command.now) [] told refl refl

pub returns-in_ok-outcome-in-ForUnit-clause-does : goal.returns-in_ok-outcome-in-ForUnit-clause-does
returns-in_ok-outcome-in-ForUnit-clause-does c =
    let s = c.args.served.now.state in
    let o = c.in_ok-outcome-in-ForUnit.outcome in
    does_so c.args.moment s (state_by o) (state_by o) (command_of c.args.command.now) (actions_by o)
    (subst (λ (q : Command). model.Changes c.args.profile s q (state_by o)) (sym (ap command_of c.in-ForUnit.is)) (c.in_ok-outcome-in-ForUnit.ensures.changed c.args.profile)) refl c.in_ok-outcome-in-ForUnit.ensures.silent.actions

pub returns-in_ok-without_waiting-in-Cancel-clause-does : goal.returns-in_ok-without_waiting-in-Cancel-clause-does
returns-in_ok-without_waiting-in-Cancel-clause-does c =
    let s = c.args.served.now.state in
    let w = c.in_ok-without_waiting-in-Cancel.field-0 in
    does_so c.args.moment s (state_of w.now) (state_of w.now) (command_of c.args.command.now) w.actions
    (subst (λ (q : Command). model.Changes c.args.profile s q (state_of w.now)) (sym (ap command_of c.in-Cancel.is)) (c.in_ok-without_waiting-in-Cancel.ensures.changed c.args.profile)) refl c.in_ok-without_waiting-in-Cancel.ensures.actions

pub returns-in_ok-served-in-Install-clause-does : goal.returns-in_ok-served-in-Install-clause-does
returns-in_ok-served-in-Install-clause-does c =
    let s = c.args.served.now.state in
    let command = model.Install c.in-Install.verb c.in-Install.unit in
    let u = c.in_ok-served-in-Install.served.state in
    does_so c.args.moment s u u (command_of c.args.command.now) []
    (subst (λ q. model.Changes c.args.profile s q u) (sym (ap command_of c.in-Install.is)) (subst (λ (x : State). model.Changes c.args.profile x command u) c.state-state.ensures.state c.in_ok-served-in-Install.ensures.changed)) refl refl

-- ---- why a command is refused

pub returns-in_err-reloaded-in-DaemonReload-clause-refused : goal.returns-in_err-reloaded-in-DaemonReload-clause-refused
returns-in_err-reloaded-in-DaemonReload-clause-refused c =
    let s = c.args.served.now.state in
    let e = c.in_err-reloaded-in-DaemonReload.field-0.0 in
    let step = subst (λ (x : State). e ≢ NoMemory → model.Refuses c.args.profile x model.DaemonReload (refused_of e)) c.state-state.ensures.state
    c.in_err-reloaded-in-DaemonReload.ensures.refused in
    refuses_on (model.Refuses c.args.profile s (command_of c.args.command.now)) c.from_residual-in_err-reloaded-in-DaemonReload.result e
    c.from_residual-in_err-reloaded-in-DaemonReload.ensures.1
    (subst (λ (q : Command). e ≢ NoMemory → model.Refuses c.args.profile s q (refused_of e)) (sym (ap command_of c.in-DaemonReload.is)) step)

pub returns-in_err-outcome-in-ForUnit-clause-refused : goal.returns-in_err-outcome-in-ForUnit-clause-refused
returns-in_err-outcome-in-ForUnit-clause-refused c =
    let s = c.args.served.now.state in
    let e = c.in_err-outcome-in-ForUnit.field-0.0 in
    refuses_on (model.Refuses c.args.profile s (command_of c.args.command.now)) c.from_residual-in_err-outcome-in-ForUnit.result e
    c.from_residual-in_err-outcome-in-ForUnit.ensures.1
    (subst (λ (q : Command). e ≢ NoMemory → model.Refuses c.args.profile s q (refused_of e)) (sym (ap command_of c.in-ForUnit.is)) (c.in_err-outcome-in-ForUnit.ensures.refused c.args.profile))

pub returns-in_ok-reloaded-in-DaemonReload-clause-refused : goal.returns-in_ok-reloaded-in-DaemonReload-clause-refused
returns-in_ok-reloaded-in-DaemonReload-clause-refused c =
    subst (λ (q : Command). (r : Refused) → model.Refuses c.args.profile c.args.served.now.state q r → ⊥) (sym (ap command_of c.in-DaemonReload.is))
    (subst (λ (x : State). (r : Refused) → model.Refuses c.args.profile x model.DaemonReload r → ⊥) c.state-state.ensures.state c.in_ok-reloaded-in-DaemonReload.ensures.refused)

pub returns-in_ok-outcome-in-ForUnit-clause-refused : goal.returns-in_ok-outcome-in-ForUnit-clause-refused
returns-in_ok-outcome-in-ForUnit-clause-refused c =
    subst (λ (q : Command). (r : Refused) → model.Refuses c.args.profile c.args.served.now.state q r → ⊥) (sym (ap command_of c.in-ForUnit.is))
    (c.in_ok-outcome-in-ForUnit.ensures.refused c.args.profile)

pub returns-in_ok-without_waiting-in-Cancel-clause-refused : goal.returns-in_ok-without_waiting-in-Cancel-clause-refused
returns-in_ok-without_waiting-in-Cancel-clause-refused c =
    subst (λ (q : Command). (r : Refused) → model.Refuses c.args.profile c.args.served.now.state q r → ⊥) (sym (ap command_of c.in-Cancel.is))
    (c.in_ok-without_waiting-in-Cancel.ensures.refused c.args.profile)

pub returns-in_ok-served-in-Install-clause-refused : goal.returns-in_ok-served-in-Install-clause-refused
returns-in_ok-served-in-Install-clause-refused c =
    let command = model.Install c.in-Install.verb c.in-Install.unit in
    subst (λ (q : Command). (r : Refused) → model.Refuses c.args.profile c.args.served.now.state q r → ⊥) (sym (ap command_of c.in-Install.is))
    (subst (λ (x : State). (r : Refused) → model.Refuses c.args.profile x command r → ⊥) c.state-state.ensures.state c.in_ok-served-in-Install.ensures.refused)

pub returns-in_err-served-in-Install-clause-refused : goal.returns-in_err-served-in-Install-clause-refused
returns-in_err-served-in-Install-clause-refused c =
    let s = c.args.served.now.state in
    let command = model.Install c.in-Install.verb c.in-Install.unit in
    let e = c.in_err-served-in-Install.field-0.0 in
    let step = subst (λ (x : State). e ≢ NoMemory → model.Refuses c.args.profile x command (refused_of e)) c.state-state.ensures.state c.in_err-served-in-Install.ensures.refused in
    refuses_on (model.Refuses c.args.profile s (command_of c.args.command.now)) c.from_residual-in_err-served-in-Install.result e
    c.from_residual-in_err-served-in-Install.ensures.1
    (subst (λ (q : Command). e ≢ NoMemory → model.Refuses c.args.profile s q (refused_of e)) (sym (ap command_of c.in-Install.is)) step)

pub returns-in_err-without_waiting-in-Cancel-clause-refused : goal.returns-in_err-without_waiting-in-Cancel-clause-refused
returns-in_err-without_waiting-in-Cancel-clause-refused c =
    let s = c.args.served.now.state in
    gives_on c.args.profile s s (model.Cancel c.in-Cancel.unit) (command_of c.args.command.now) c.from_residual-in_err-without_waiting-in-Cancel.result c.in_err-without_waiting-in-Cancel.field-0.0
    refl (ap command_of c.in-Cancel.is) c.from_residual-in_err-without_waiting-in-Cancel.ensures.1 (c.in_err-without_waiting-in-Cancel.ensures.refused c.args.profile)

pub returns-in_err-without_failures-in-ResetFailed-clause-refused : goal.returns-in_err-without_failures-in-ResetFailed-clause-refused
returns-in_err-without_failures-in-ResetFailed-clause-refused c =
    let s = c.args.served.now.state in
    gives_on c.args.profile s s (model.ResetFailed c.in-ResetFailed.unit) (command_of c.args.command.now) c.from_residual-in_err-without_failures-in-ResetFailed.result c.in_err-without_failures-in-ResetFailed.field-0.0
    refl (ap command_of c.in-ResetFailed.is) c.from_residual-in_err-without_failures-in-ResetFailed.ensures.1 (c.in_err-without_failures-in-ResetFailed.ensures.refused c.args.profile)

pub returns-in_ok-without_failures-in-ResetFailed-clause-refused : goal.returns-in_ok-without_failures-in-ResetFailed-clause-refused
returns-in_ok-without_failures-in-ResetFailed-clause-refused c =
    let s = c.args.served.now.state in
    free_of c.args.profile s s (model.ResetFailed c.in-ResetFailed.unit) (command_of c.args.command.now) refl (ap command_of c.in-ResetFailed.is) (c.in_ok-without_failures-in-ResetFailed.ensures.refused c.args.profile)

pub returns-in_ok-without_failures-in-ResetFailed-clause-does : goal.returns-in_ok-without_failures-in-ResetFailed-clause-does
returns-in_ok-without_failures-in-ResetFailed-clause-does c =
    let w = c.in_ok-without_failures-in-ResetFailed.field-0 in
    subst (λ (q : Command). model.Does c.args.profile c.args.moment c.args.served.now.state q w.actions (state_of w.now)) (sym (ap command_of c.in-ResetFailed.is))
    (c.in_ok-without_failures-in-ResetFailed.ensures.does c.args.profile)

-- ---- the answer, and the value that the work goes over

pub returns-in_ok-reloaded-in-DaemonReload-clause-reply : goal.returns-in_ok-reloaded-in-DaemonReload-clause-reply
returns-in_ok-reloaded-in-DaemonReload-clause-reply c =
    answers (command_of c.args.command.now) model.DaemonReload c.args.served.now.state.tree c.in_ok-reloaded-in-DaemonReload.field-0.state.tree (ap command_of c.in-DaemonReload.is) refl

pub returns-in_ok-outcome-in-ForUnit-clause-reply : goal.returns-in_ok-outcome-in-ForUnit-clause-reply
returns-in_ok-outcome-in-ForUnit-clause-reply c =
    c.in_ok-outcome-in-ForUnit.ensures.silent.reply
    ∙ answers (command_of c.args.command.now) _ c.args.served.now.state.tree (state_by c.in_ok-outcome-in-ForUnit.outcome).tree (ap command_of c.in-ForUnit.is) refl

pub returns-in_ok-without_waiting-in-Cancel-clause-reply : goal.returns-in_ok-without_waiting-in-Cancel-clause-reply
returns-in_ok-without_waiting-in-Cancel-clause-reply c =
    answers (command_of c.args.command.now) _ c.args.served.now.state.tree (state_of c.in_ok-without_waiting-in-Cancel.field-0.now).tree (ap command_of c.in-Cancel.is) refl

pub returns-in_ok-without_waiting-in-Cancel-clause-based : goal.returns-in_ok-without_waiting-in-Cancel-clause-based
returns-in_ok-without_waiting-in-Cancel-clause-based c =
    (c.in_ok-without_waiting-in-Cancel.ensures.works, c.in_ok-without_waiting-in-Cancel.ensures.moment)

pub returns-in_ok-without_failures-in-ResetFailed-clause-reply : goal.returns-in_ok-without_failures-in-ResetFailed-clause-reply
returns-in_ok-without_failures-in-ResetFailed-clause-reply c =
    answers (command_of c.args.command.now) _ c.args.served.now.state.tree (state_of c.in_ok-without_failures-in-ResetFailed.field-0.now).tree (ap command_of c.in-ResetFailed.is) refl

pub returns-in_ok-without_failures-in-ResetFailed-clause-based : goal.returns-in_ok-without_failures-in-ResetFailed-clause-based
returns-in_ok-without_failures-in-ResetFailed-clause-based c =
    (c.in_ok-without_failures-in-ResetFailed.ensures.works, c.in_ok-without_failures-in-ResetFailed.ensures.moment)

pub returns-in_ok-outcome-in-ForUnit-clause-based : goal.returns-in_ok-outcome-in-ForUnit-clause-based
returns-in_ok-outcome-in-ForUnit-clause-based c =
    c.in_ok-outcome-in-ForUnit.ensures.based

pub returns-in_ok-served-in-Install-clause-reply : goal.returns-in_ok-served-in-Install-clause-reply
returns-in_ok-served-in-Install-clause-reply c =
    let command = model.Install c.in-Install.verb c.in-Install.unit in
    let served = c.in_ok-served-in-Install.served in
    at_command (λ x q. reply_of c.in_ok-served-in-Install.reply ≡ model.reply_after (model.Commanded q) x.tree served.state.tree)
    (state_of c.state-state.result.now) c.args.served.now.state command (command_of c.args.command.now) c.state-state.ensures.state (ap command_of c.in-Install.is) c.in_ok-served-in-Install.ensures.reply

pub returns-in_ok-outcome-in-PutFile-clause-does : goal.returns-in_ok-outcome-in-PutFile-clause-does
returns-in_ok-outcome-in-PutFile-clause-does c =
    let s = c.args.served.now.state in
    let o = c.in_ok-outcome-in-PutFile.outcome in
    let is : command_of c.args.command.now ≡ model.PutFile c.as_str.result.now c.as_str-in-PutFile.result.now = puts (command_of c.args.command.now) _ c.as_str.result.now _ c.as_str-in-PutFile.result.now (ap command_of c.in-PutFile.is) c.as_str.ensures.value c.as_str-in-PutFile.ensures.value in
    does_so c.args.moment s (state_by o) (state_by o) (command_of c.args.command.now) (actions_by o)
    (subst (λ (q : Command). model.Changes c.args.profile s q (state_by o)) (sym is) (c.in_ok-outcome-in-PutFile.ensures.changed c.args.profile)) refl c.in_ok-outcome-in-PutFile.ensures.silent.actions

pub returns-in_err-outcome-in-PutFile-clause-refused : goal.returns-in_err-outcome-in-PutFile-clause-refused
returns-in_err-outcome-in-PutFile-clause-refused c =
    let s = c.args.served.now.state in
    let e = c.in_err-outcome-in-PutFile.field-0.0 in
    let is : command_of c.args.command.now ≡ model.PutFile c.as_str.result.now c.as_str-in-PutFile.result.now = puts (command_of c.args.command.now) _ c.as_str.result.now _ c.as_str-in-PutFile.result.now (ap command_of c.in-PutFile.is) c.as_str.ensures.value c.as_str-in-PutFile.ensures.value in
    refuses_on (model.Refuses c.args.profile s (command_of c.args.command.now)) c.from_residual.result e c.from_residual.ensures.1
    (subst (λ (q : Command). e ≢ NoMemory → model.Refuses c.args.profile s q (refused_of e)) (sym is) (c.in_err-outcome-in-PutFile.ensures.refused c.args.profile))

pub returns-in_ok-outcome-in-PutFile-clause-refused : goal.returns-in_ok-outcome-in-PutFile-clause-refused
returns-in_ok-outcome-in-PutFile-clause-refused c =
    let is : command_of c.args.command.now ≡ model.PutFile c.as_str.result.now c.as_str-in-PutFile.result.now = puts (command_of c.args.command.now) _ c.as_str.result.now _ c.as_str-in-PutFile.result.now (ap command_of c.in-PutFile.is) c.as_str.ensures.value c.as_str-in-PutFile.ensures.value in
    subst (λ (q : Command). (r : Refused) → model.Refuses c.args.profile c.args.served.now.state q r → ⊥) (sym is) (c.in_ok-outcome-in-PutFile.ensures.refused c.args.profile)

pub returns-in_ok-outcome-in-PutFile-clause-reply : goal.returns-in_ok-outcome-in-PutFile-clause-reply
returns-in_ok-outcome-in-PutFile-clause-reply c =
    c.in_ok-outcome-in-PutFile.ensures.silent.reply
    ∙ answers (command_of c.args.command.now) _ c.args.served.now.state.tree (state_by c.in_ok-outcome-in-PutFile.outcome).tree (ap command_of c.in-PutFile.is) refl

pub returns-in_ok-outcome-in-PutFile-clause-based : goal.returns-in_ok-outcome-in-PutFile-clause-based
returns-in_ok-outcome-in-PutFile-clause-based c = c.in_ok-outcome-in-PutFile.ensures.based

pub returns-in_ok-outcome-in-PutLink-clause-does : goal.returns-in_ok-outcome-in-PutLink-clause-does
returns-in_ok-outcome-in-PutLink-clause-does c =
    let s = c.args.served.now.state in
    let o = c.in_ok-outcome-in-PutLink.outcome in
    let is : command_of c.args.command.now ≡ model.PutLink c.as_str-in-PutLink.result.now c.as_str-in-PutLink-2.result.now = links (command_of c.args.command.now) _ c.as_str-in-PutLink.result.now _ c.as_str-in-PutLink-2.result.now (ap command_of c.in-PutLink.is) c.as_str-in-PutLink.ensures.value c.as_str-in-PutLink-2.ensures.value in
    does_so c.args.moment s (state_by o) (state_by o) (command_of c.args.command.now) (actions_by o)
    (subst (λ (q : Command). model.Changes c.args.profile s q (state_by o)) (sym is) (c.in_ok-outcome-in-PutLink.ensures.changed c.args.profile)) refl c.in_ok-outcome-in-PutLink.ensures.silent.actions

pub returns-in_err-outcome-in-PutLink-clause-refused : goal.returns-in_err-outcome-in-PutLink-clause-refused
returns-in_err-outcome-in-PutLink-clause-refused c =
    let s = c.args.served.now.state in
    let e = c.in_err-outcome-in-PutLink.field-0.0 in
    let is : command_of c.args.command.now ≡ model.PutLink c.as_str-in-PutLink.result.now c.as_str-in-PutLink-2.result.now = links (command_of c.args.command.now) _ c.as_str-in-PutLink.result.now _ c.as_str-in-PutLink-2.result.now (ap command_of c.in-PutLink.is) c.as_str-in-PutLink.ensures.value c.as_str-in-PutLink-2.ensures.value in
    refuses_on (model.Refuses c.args.profile s (command_of c.args.command.now)) c.from_residual-in_err-outcome-in-PutLink.result e c.from_residual-in_err-outcome-in-PutLink.ensures.1
    (subst (λ (q : Command). e ≢ NoMemory → model.Refuses c.args.profile s q (refused_of e)) (sym is) (c.in_err-outcome-in-PutLink.ensures.refused c.args.profile))

pub returns-in_ok-outcome-in-PutLink-clause-refused : goal.returns-in_ok-outcome-in-PutLink-clause-refused
returns-in_ok-outcome-in-PutLink-clause-refused c =
    let is : command_of c.args.command.now ≡ model.PutLink c.as_str-in-PutLink.result.now c.as_str-in-PutLink-2.result.now = links (command_of c.args.command.now) _ c.as_str-in-PutLink.result.now _ c.as_str-in-PutLink-2.result.now (ap command_of c.in-PutLink.is) c.as_str-in-PutLink.ensures.value c.as_str-in-PutLink-2.ensures.value in
    subst (λ (q : Command). (r : Refused) → model.Refuses c.args.profile c.args.served.now.state q r → ⊥) (sym is) (c.in_ok-outcome-in-PutLink.ensures.refused c.args.profile)

pub returns-in_ok-outcome-in-PutLink-clause-reply : goal.returns-in_ok-outcome-in-PutLink-clause-reply
returns-in_ok-outcome-in-PutLink-clause-reply c =
    c.in_ok-outcome-in-PutLink.ensures.silent.reply
    ∙ answers (command_of c.args.command.now) _ c.args.served.now.state.tree (state_by c.in_ok-outcome-in-PutLink.outcome).tree (ap command_of c.in-PutLink.is) refl

pub returns-in_ok-outcome-in-PutLink-clause-based : goal.returns-in_ok-outcome-in-PutLink-clause-based
returns-in_ok-outcome-in-PutLink-clause-based c = c.in_ok-outcome-in-PutLink.ensures.based

pub returns-in_ok-outcome-in-Remove-clause-does : goal.returns-in_ok-outcome-in-Remove-clause-does
returns-in_ok-outcome-in-Remove-clause-does c =
    let s = c.args.served.now.state in
    let o = c.in_ok-outcome-in-Remove.outcome in
    let is : command_of c.args.command.now ≡ model.Remove c.as_str-in-Remove.result.now = removes (command_of c.args.command.now) _ c.as_str-in-Remove.result.now (ap command_of c.in-Remove.is) c.as_str-in-Remove.ensures.value in
    does_so c.args.moment s (state_by o) (state_by o) (command_of c.args.command.now) (actions_by o)
    (subst (λ (q : Command). model.Changes c.args.profile s q (state_by o)) (sym is) (c.in_ok-outcome-in-Remove.ensures.changed c.args.profile)) refl c.in_ok-outcome-in-Remove.ensures.silent.actions

pub returns-in_err-outcome-in-Remove-clause-refused : goal.returns-in_err-outcome-in-Remove-clause-refused
returns-in_err-outcome-in-Remove-clause-refused c =
    let s = c.args.served.now.state in
    let e = c.in_err-outcome-in-Remove.field-0.0 in
    let is : command_of c.args.command.now ≡ model.Remove c.as_str-in-Remove.result.now = removes (command_of c.args.command.now) _ c.as_str-in-Remove.result.now (ap command_of c.in-Remove.is) c.as_str-in-Remove.ensures.value in
    refuses_on (model.Refuses c.args.profile s (command_of c.args.command.now)) c.from_residual-in_err-outcome-in-Remove.result e c.from_residual-in_err-outcome-in-Remove.ensures.1
    (subst (λ (q : Command). e ≢ NoMemory → model.Refuses c.args.profile s q (refused_of e)) (sym is) (c.in_err-outcome-in-Remove.ensures.refused c.args.profile))

pub returns-in_ok-outcome-in-Remove-clause-refused : goal.returns-in_ok-outcome-in-Remove-clause-refused
returns-in_ok-outcome-in-Remove-clause-refused c =
    let is : command_of c.args.command.now ≡ model.Remove c.as_str-in-Remove.result.now = removes (command_of c.args.command.now) _ c.as_str-in-Remove.result.now (ap command_of c.in-Remove.is) c.as_str-in-Remove.ensures.value in
    subst (λ (q : Command). (r : Refused) → model.Refuses c.args.profile c.args.served.now.state q r → ⊥) (sym is) (c.in_ok-outcome-in-Remove.ensures.refused c.args.profile)

pub returns-in_ok-outcome-in-Remove-clause-reply : goal.returns-in_ok-outcome-in-Remove-clause-reply
returns-in_ok-outcome-in-Remove-clause-reply c =
    c.in_ok-outcome-in-Remove.ensures.silent.reply
    ∙ answers (command_of c.args.command.now) _ c.args.served.now.state.tree (state_by c.in_ok-outcome-in-Remove.outcome).tree (ap command_of c.in-Remove.is) refl

pub returns-in_ok-outcome-in-Remove-clause-based : goal.returns-in_ok-outcome-in-Remove-clause-based
returns-in_ok-outcome-in-Remove-clause-based c = c.in_ok-outcome-in-Remove.ensures.based c.args.moment
