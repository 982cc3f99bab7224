use Rattle.std.proofs.Common.{◌≡◌, ◌↔◌, ◌∙◌, ℕ, List, Contains, ap, sym, subst}
use Rattle.um_model.specs.Machine.{IsHeld, State}
use Rattle.um_state.specs.View.{state_of}
use Rattle.um_unit.specs.View.{tree_read}
use Rattle.um_engine.proofs.KnownLaws.{count_found}
use Rattle.um_engine.proofs.room.units.Goals as goal

pub returns : goal.returns
returns c =
    let s : State = c.args.served.now.state in
    let held : (x : List ℕ) → Contains c.deref.result.now x ↔ IsHeld s x =
    subst (λ (v : State). (x : List ℕ) → Contains c.deref.result.now x ↔ IsHeld v x) c.state-state.ensures.state
    (λ x. subst (λ xs. Contains xs x ↔ IsHeld (state_of c.state-state.result.now) x) (sym c.deref.ensures.value) (c.in_ok-held.ensures x)) in
    let tree : (tree_read c.loaded.result) ≡ s.loaded = c.loaded.ensures ∙ ap (λ (v : State). v.loaded) c.state-state.ensures.state in
    count_found s (tree_read c.loaded.result) c.deref.result.now tree held c.count_of.result c.count_of.ensures
