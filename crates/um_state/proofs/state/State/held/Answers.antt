use Rattle.std.proofs.Common.{◌≢◌, ◌∙◌, ◌++◌, ◌↔◌, ◌⊎◌, None, ap, sym, subst}
use Rattle.std.specs.Prelude.{Contains}
use Rattle.std.specs.FinMap as map
use Rattle.um_model.specs.Machine.{IsHeld}
use Rattle.um_state.proofs.HeldLaws.{keys_held}
use Rattle.um_state.specs.View.{state_of}
use Rattle.um_state.proofs.state.State.held.Goals as goal

pub returns : goal.returns
returns c = λ unit.
    let held = c.self.inside.units.held in
    let waiting = c.self.inside.pending.held in
    let units = c.in_ok-push_names.ensures ∙ ap (λ names. names ++ map.keys held) c.new-names.ensures.items in
    let all = c.in_ok-push_names-2.ensures ∙ ap (λ names. names ++ map.keys waiting) units in
    subst (λ s. Contains c.push_names-2.new.names.items unit ↔ IsHeld (state_of s) unit) c.self.view_is
    (subst (λ names. Contains names unit ↔ ((map.get held unit ≢ None) ⊎ (map.get waiting unit ≢ None))) (sym all) (keys_held held waiting unit))
