use Rattle.std.proofs.Common.{sym, subst}
use Rattle.um_state.specs.View.{state_of}
use Rattle.um_engine.specs.Known.{KnownView, KnowsFor}
use Rattle.um_engine.proofs.KnownLaws.{knows_less}
use Rattle.um_engine.proofs.commands.kept.Goals as goal

pub numbered-requires : goal.numbered-requires
numbered-requires c =
    subst (λ (k : KnownView). KnowsFor k (state_of c.args.state)) (sym c.in_ok-share_known.ensures.known)
    (knows_less c.args.served.now.known c.args.served.now.state (state_of c.args.state) c.share_known.ensures.knows c.requires)
