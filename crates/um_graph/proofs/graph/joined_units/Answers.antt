use Rattle.um_graph.proofs.GraphLaws.{names_ascend}
use Rattle.um_graph.proofs.graph.joined_units.Goals as goal

pub joined-requires-clause-sorted : goal.joined-requires-clause-sorted
joined-requires-clause-sorted c = names_ascend c.args.known.loaded c.in_ok-units.units.units.items c.in_ok-units.ensures.units c.in_ok-units.ensures.ordered
