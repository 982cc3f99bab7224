use Rattle.std.proofs.Common.{◌≡◌, ◌∙◌, ◌++◌, ap, arith, length, subst}
use Rattle.um_graph.specs.Graph.{row_of}
use Rattle.um_graph.specs.Listed.{AreOf, dependencies_in}
use Rattle.um_graph.proofs.ListedLaws.{edges_exact, of_more, of_none}
use Rattle.um_graph.proofs.graph.Graph.edges.Goals as goal

pub loop-unit-init : goal.loop-unit-init
loop-unit-init c = of_none (λ x. dependencies_in x (row_of c.args.self.now.rows x)) _ c.new-edges.ensures.items

pub loop-unit-preserved : goal.loop-unit-preserved
loop-unit-preserved c =
    of_more (λ x. dependencies_in x (row_of c.args.self.now.rows x)) c.loop-unit.unit c.loop-unit.edges.items _ c.loop-unit.invariant
    (c.in_ok-push_dependencies.ensures ∙ ap (λ row. c.loop-unit.edges.items ++ dependencies_in c.loop-unit.unit row) c.neighbours.ensures)

pub returns : goal.returns
returns c =
    let at : c.loop-unit.unit ≡ length c.args.self.now.names = omega arith in
    edges_exact c.args.self.now c.len-unit-end.ensures.graph c.loop-unit.edges.items
    (subst (λ n. AreOf (λ x. dependencies_in x (row_of c.args.self.now.rows x)) n c.loop-unit.edges.items) at c.loop-unit.invariant)
