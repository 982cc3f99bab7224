use Rattle.um_graph.specs.Graph.{row_of}
use Rattle.um_graph.specs.Listed.{AreOf, dependencies_in}
use Rattle.um_graph.proofs.graph.Graph.edges.Given as goal

abbrev pub invariant-loop-unit : goal.invariant-loop-unit
invariant-loop-unit l = AreOf (λ x. dependencies_in x (row_of l.self.rows x)) l.unit l.edges.items
