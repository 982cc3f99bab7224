use Rattle.std.proofs.Common.{◌≡◌, ◌≢◌, ◌∙◌, ℕ, List, Contains, subst, sym, true≢false}
use Rattle.std.specs.Prelude.{IfOk}
use Rattle.um_model.specs.Machine.{State, IsHeld}
use Rattle.um_wire.specs.declared.refusal.Refusal.TheVariants.{NoMemory}
use Rattle.um_engine.specs.Known.{IsFull, KnowsFor}
use Rattle.um_engine.specs.Served.{ServedView}
use Rattle.um_engine.proofs.ExactLaws.{exact_full, exact_on}
use Rattle.um_engine.proofs.served.Served.exactly.Goals as goal

pub numbered-requires : goal.numbered-requires
numbered-requires c = subst (KnowsFor c.in-Ok.known.value) (c.state.ensures.state ∙ sym c.into_state.ensures) c.in-Ok.ensures.knows

pub returns-in-Ok-clause-state : goal.returns-in-Ok-clause-state
returns-in-Ok-clause-state c = subst (λ (s : State). IfOk c.numbered.result (λ (u : ServedView). u.state ≡ s)) c.into_state.ensures c.numbered.ensures.state

pub returns-in-Ok-clause-exact : goal.returns-in-Ok-clause-exact
returns-in-Ok-clause-exact c =
    let s = c.args.self.state in
    let k = c.in-Ok.known.value in
    exact_on c.numbered.result k s (subst (λ (x : State). IfOk c.numbered.result (λ (u : ServedView). u.state ≡ x)) c.into_state.ensures c.numbered.ensures.state) c.numbered.ensures.known
    (subst (KnowsFor k) c.state.ensures.state c.in-Ok.ensures.knows) (subst (λ (x : State). (unit : List ℕ) → Contains k.extra unit → IsHeld x unit) c.state.ensures.state c.in-Ok.ensures.held)

pub returns-else-is_for_memory-clause-exact : goal.returns-else-is_for_memory-clause-exact
returns-else-is_for_memory-clause-exact c =
    let differs : c.in-Err.refusal ≢ NoMemory = λ none. true≢false (sym (c.is_for_memory.ensures.1 none) ∙ c.if-is_for_memory.false) in
    exact_full c.args.self (subst (λ (x : State). IsFull x.loaded (IsHeld x)) c.state.ensures.state (c.in-Err.ensures.refused differs).1)
