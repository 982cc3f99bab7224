use Rattle.std.proofs.Common.{◌≡◌, ◌++◌, take}
use Rattle.um_graph.specs.Listed.{order_in}
use Rattle.um_graph.proofs.lists.push_order.Given as goal

abbrev pub invariant-loop-neighbour : goal.invariant-loop-neighbour
invariant-loop-neighbour l = l.pairs.items ≡ l.initial.pairs.items ++ order_in l.unit (take l.neighbour-index l.row)
