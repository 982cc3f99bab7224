-- When `Known` fits a state.
use Rattle.std.proofs.Common.{◌≡◌, ℕ, List, subst, sym}
use Rattle.um_model.specs.Machine.{State, IsHeldOr}
use Rattle.um_engine.specs.Known.{IsGraphFor, KnownView, KnowsFor}

-- it fits as its test says
pub fits_here : (k x : KnownView) (s y : State) (unit : List ℕ) → x ≡ k → y ≡ s → KnowsFor k s → (KnowsFor x y → IsGraphFor y.loaded (IsHeldOr y unit) x.graph)
    → IsGraphFor s.loaded (IsHeldOr s unit) k.graph
fits_here k x s y unit known state knows fits =
    subst (λ (z : KnownView). IsGraphFor s.loaded (IsHeldOr s unit) z.graph) known
    (subst (λ (z : State). IsGraphFor z.loaded (IsHeldOr z unit) x.graph) state
    (fits (subst (λ (z : State). KnowsFor x z) (sym state) (subst (λ (z : KnownView). KnowsFor z s) (sym known) knows))))
