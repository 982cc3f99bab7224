use Rattle.um_state.specs.View.{state_of}
use Rattle.um_answer.proofs.ListedLaws.{lists_known_so}
use Rattle.um_answer.proofs.listing.list_known.Goals as goal

pub returns : goal.returns
returns c = lists_known_so (state_of c.args.state.now) c.args.graph.now _ c.in_ok-listed_in.ensures
