use Rattle.std.proofs.Common.{ℕ, List, Contains, subst}
use Rattle.um_model.specs.Machine.{IsHeld, State}
use Rattle.um_engine.specs.Known.{KnownView}
use Rattle.um_engine.proofs.ExactLaws.{exact_made}
use Rattle.um_engine.proofs.served.Served.is_exact.Goals as goal

pub returns : goal.returns
returns c told =
    let v = c.args.self.now in
    exact_made v c.known.ensures.knows
    (subst (λ (k : KnownView). (unit : List ℕ) → Contains k.extra unit → IsHeld v.state unit) c.known.ensures.known
    (subst (λ (s : State). (unit : List ℕ) → Contains c.known.result.now.extra unit → IsHeld s unit) c.state.ensures.state (c.fits.ensures.made told)))
