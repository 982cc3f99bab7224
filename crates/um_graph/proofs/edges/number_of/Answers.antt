use Rattle.um_graph.proofs.PlaceLaws.{placed, placed_within}
use Rattle.um_graph.proofs.edges.number_of.Goals as goal

pub returns-clause-number : goal.returns-clause-number
returns-clause-number c = placed c.args.names.now c.number.ensures.ascending c.args.name.now c.number.result c.number.ensures.number

pub returns-clause-within : goal.returns-clause-within
returns-clause-within c = placed_within c.args.names.now c.number.ensures.ascending c.args.name.now c.number.result c.number.ensures.number
