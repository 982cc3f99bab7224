use Rattle.std.proofs.Common.{◌≡◌, Contains, MatchOption, Some, slice_get, subst}
use Rattle.um_graph.specs.Graph.{GraphView}
use Rattle.um_graph.proofs.NumberLaws.{numbered}
use Rattle.um_graph.proofs.graph.Graph.number.Goals as goal

pub returns : goal.returns
returns c =
    subst (λ (g : GraphView). MatchOption c.number.result (¬ Contains g.names c.args.name.now) (λ i. slice_get g.names i ≡ Some c.args.name.now)) c.self.view_is
    (numbered _ c.args.name.now c.number.result c.number.ensures.number)
