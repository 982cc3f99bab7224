use Rattle.std.proofs.Common.{◌≡◌, ◌<◌, ◌∙◌, All, ap, length, subst, sym}
use Rattle.um_graph.specs.Graph.{row_of}
use Rattle.um_graph.specs.Sorted.{IsAscending, IsSortedGraph}
use Rattle.um_graph.specs.declared.row.Neighbour.{Neighbour}
use Rattle.um_graph.proofs.NamedLaws.{got_within, name_is, names_once}
use Rattle.um_graph.proofs.SortLaws.{all_within}
use Rattle.um_graph.proofs.graph.Graph.neighbours_of.Goals as goal

pub returns-clause-row : goal.returns-clause-row
returns-clause-row c unit is =
    let g = c.args.self.now in
    let name = c.args.name.now in
    let whole : IsSortedGraph g = subst IsSortedGraph c.self.view_is c.self.invariant.0 in
    let at = c.in-Some.ensures in
    let same : c.in-Some.unit ≡ unit =
    names_once g.names whole.graph.sorted c.in-Some.unit unit (got_within g.names c.in-Some.unit name at) (got_within g.names unit name is)
    (name_is g.names c.in-Some.unit name at ∙ sym (name_is g.names unit name is)) in
    c.neighbours.ensures ∙ ap (row_of g.rows) same

pub returns-clause-ascends : goal.returns-clause-ascends
returns-clause-ascends c =
    let whole : IsSortedGraph c.args.self.now = subst IsSortedGraph c.self.view_is c.self.invariant.0 in
    subst IsAscending (sym c.neighbours.ensures) (whole.ascends c.in-Some.unit)

pub returns-clause-within : goal.returns-clause-within
returns-clause-within c =
    let g = c.args.self.now in
    let whole : IsSortedGraph g = subst IsSortedGraph c.self.view_is c.self.invariant.0 in
    subst (All (λ (n : Neighbour). n.unit < length g.names)) (sym c.neighbours.ensures) (all_within g whole.graph c.in-Some.unit)
