use Rattle.std.proofs.Common.{◌≡◌, ◌/◌, map, take}
use Rattle.std.specs.Prelude.{string_bytes}
use Rattle.um_graph.specs.Named.{name_at}
use Rattle.um_transact.proofs.order.units_of.Given as goal

abbrev pub invariant-loop-node : goal.invariant-loop-node
invariant-loop-node l = map string_bytes l.items.items ≡ map (λ k. name_at l.graph.names (k / 2)) (take l.node-index l.cycle)
