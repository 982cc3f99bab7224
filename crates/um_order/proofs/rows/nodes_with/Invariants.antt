use Rattle.std.proofs.Common.{◌≡◌, take}
use Rattle.um_order.specs.Pairs.{nodes_with}
use Rattle.um_order.proofs.rows.nodes_with.Given as goal

abbrev pub invariant-loop-pair : goal.invariant-loop-pair
invariant-loop-pair l = l.all ≡ nodes_with l.nodes (take l.pair-index l.pairs)
