use Rattle.std.proofs.Common.{◌≡◌, true, option_copied, rules}
use Rattle.um_state.specs.View.{state_of}
use Rattle.um_engine.proofs.KnownLaws.{fits_for}
use Rattle.um_engine.proofs.known.Known.fits.Goals as goal

pub returns-clause-graph : goal.returns-clause-graph
returns-clause-graph c told knows =
    let known : c.knows.result ≡ true = search rules in
    let made : c.is_made_for.result ≡ true = search rules in
    fits_for (state_of c.args.state.now) c.args.self.now (option_copied c.args.named) knows (c.is_made_for.ensures made) (c.knows.ensures known) (c.lasts_for.ensures told)

pub returns-clause-made : goal.returns-clause-made
returns-clause-made c told =
    let made : c.is_made_for.result ≡ true = search rules in
    c.is_made_for.ensures made
