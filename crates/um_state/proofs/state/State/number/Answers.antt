use Rattle.std.proofs.Common.{◌∙◌, ℕ, List, ap, sym, subst, inl, inr}
use Rattle.um_model.specs.Profiles.{read_by}
use Rattle.um_model.specs.Jobs.{no_jobs}
use Rattle.um_model.specs.Machine.{IsHeld, State}
use Rattle.um_model.specs.Service.{dead_unit}
use Rattle.um_name.specs.Names.{IsApart}
use Rattle.um_state.specs.View.{state_of}
use Rattle.um_state.proofs.HeldLaws.{nothing_there}
use Rattle.um_state.proofs.StateRows.{state_with}
use Rattle.um_state.proofs.state.State.number.Goals as goal

pub returns-clause-state : goal.returns-clause-state
returns-clause-state c = λ apart.
    let x = c.self.inside in
    let s : State = state_with x.tree (read_by x.profile x.loaded) x.boot x.clock x.next in
    let free : (n : List ℕ) → IsApart c.args.names.now n → IsHeld (record s { units = x.units.held; pending = x.pending.held }) n → ⊥ =
    subst (λ z. (n : List ℕ) → IsApart c.args.names.now n → IsHeld (state_of z) n → ⊥) (sym c.self.view_is) apart in
    let units = c.in_ok-self-inside.ensures.held (λ n a. nothing_there dead_unit x.units.held n (λ h. free n a (inl h))) in
    let pending = c.in_ok-pending.ensures.held (λ n a. nothing_there no_jobs x.pending.held n (λ h. free n a (inr h))) in
    (λ k. record s { units = units k; pending = pending k }) ∙ ap state_of c.self.view_is
