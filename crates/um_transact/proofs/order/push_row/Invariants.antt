use Rattle.std.proofs.Common.{◌≡◌, ◌++◌, take}
use Rattle.std.specs.List.{flat_map}
use Rattle.um_transact.specs.Order.{pairs_by}
use Rattle.um_transact.proofs.order.push_row.Given as goal

abbrev pub invariant-loop-neighbour : goal.invariant-loop-neighbour
invariant-loop-neighbour l = l.pairs.items ≡ l.initial.pairs.items ++ flat_map (pairs_by l.plan l.unit) (take l.neighbour-index l.neighbour-items)
