use Rattle.std.proofs.Common.{◌≡◌, ◌∙◌, true, subst, sym}
use Rattle.um_model.specs.Machine.{State}
use Rattle.um_engine.specs.Known.{KnownView, KnowsFor}
use Rattle.um_engine.proofs.served.Served.copy.Goals as goal

pub numbered-requires : goal.numbered-requires
numbered-requires c =
    subst (KnowsFor c.in_ok-known.known.value) (sym (c.in_ok-state.ensures ∙ c.state.ensures.state))
    (subst (λ (k : KnownView). KnowsFor k c.args.self.now.state) (sym c.in_ok-known.ensures.known) c.share_known.ensures.knows)

pub returns : goal.returns
returns c =
    let state : c.in_ok-served.served.state ≡ c.args.self.now.state = c.in_ok-served.ensures.state ∙ (c.in_ok-state.ensures ∙ c.state.ensures.state) in
    let known : c.in_ok-served.served.known ≡ c.args.self.now.known = c.in_ok-served.ensures.known ∙ c.in_ok-known.ensures.known in
    λ i. record { state = state i; common = true; names = (known i).graph.names }
