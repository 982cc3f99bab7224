use Rattle.std.proofs.Common.{◌≡◌, ◌++◌, take}
use Rattle.um_graph.specs.Listed.{dependencies_in}
use Rattle.um_graph.proofs.lists.push_dependencies.Given as goal

abbrev pub invariant-loop-neighbour : goal.invariant-loop-neighbour
invariant-loop-neighbour l = l.edges.items ≡ l.initial.edges.items ++ dependencies_in l.unit (take l.neighbour-index l.row)
