use Rattle.um_state.specs.View.{state_of}
use Rattle.um_engine.proofs.KnownLaws.{exact_for}
use Rattle.um_engine.proofs.known.Known.is_exact.Goals as goal

pub returns : goal.returns
returns c told knows = exact_for (state_of c.args.state.now) c.args.self.now knows (c.is_made_for.ensures told)
