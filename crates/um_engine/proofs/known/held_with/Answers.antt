use Rattle.std.proofs.Common.{◌∙◌, ◌++◌, ◌∷◌, [], ◌↔◌, ℕ, List, Contains, option_copied, sym, ap, subst}
use Rattle.um_model.specs.Machine.{IsHeld}
use Rattle.um_state.specs.View.{state_of}
use Rattle.um_engine.specs.Known.{IsHeldWith}
use Rattle.um_engine.proofs.NumberedLaws.{with_named}
use Rattle.um_engine.proofs.known.held_with.Goals as goal

pub returns-in_ok-push-in-Some : goal.returns-in_ok-push-in-Some
returns-in_ok-push-in-Some c =
    subst (λ o. (unit : List ℕ) → Contains c.push.new.self.items unit ↔ IsHeldWith (state_of c.args.state.now) (option_copied o) unit) (sym c.in-Some.is)
    (with_named (IsHeld (state_of c.args.state.now)) c.in_ok-names.names.items c.push.new.self.items c.in-Some.named.now
    (c.in_ok-push-in-Some.ensures.items ∙ ap (λ n. c.in_ok-names.names.items ++ n ∷ []) c.in_ok-copy-in-Some.ensures) c.in_ok-names.ensures)

pub returns-in-None : goal.returns-in-None
returns-in-None c =
    subst (λ o. (unit : List ℕ) → Contains c.in_ok-names.names.items unit ↔ IsHeldWith (state_of c.args.state.now) (option_copied o) unit) (sym c.in-None.is) c.in_ok-names.ensures
