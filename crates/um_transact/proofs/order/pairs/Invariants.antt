use Rattle.um_transact.specs.Order.{ArePairs}
use Rattle.um_transact.proofs.order.pairs.Given as goal

abbrev pub invariant-loop-unit : goal.invariant-loop-unit
invariant-loop-unit l = ArePairs l.graph.rows l.plan l.unit l.pairs.items
