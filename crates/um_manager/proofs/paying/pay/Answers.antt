use Rattle.std.proofs.Common.{map, refl, sym, subst}
use Rattle.um_keeper.specs.Keepers.{state_in}
use Rattle.um_state.specs.View.{reply_of}
use Rattle.um_manager.specs.Replies.{Pays}
use Rattle.um_manager.proofs.paying.pay.Goals as goal

pub returns-in-Query-clause-pays : goal.returns-in-Query-clause-pays
returns-in-Query-clause-pays g c =
    subst (λ d. Pays (state_in c.args.keeper.now) d (map reply_of c.args.replies.now) (map reply_of c.args.replies.now) c.args.session.now c.put_out-in-Query.new.session) (sym c.in-Query.is)
    (refl, (reply_of c.told-reply.result, c.told-reply.ensures, c.put_out-in-Query.ensures))
