use Rattle.std.proofs.Common.{◌≡◌, ◌<◌, All, take, vec_len}
use Rattle.std.specs.List.{flat_map}
use Rattle.um_graph.specs.Edges.{order_seen}
use Rattle.um_graph.specs.declared.units.Pair.{Pair}
use Rattle.um_graph.proofs.edges.orders_of.Given as goal

abbrev pub invariant-loop-edge : goal.invariant-loop-edge
invariant-loop-edge l = record {
  pairs : l.orders.items ≡ flat_map (order_seen l.units.units.items) (take l.edge-index l.edges);
  within : All (λ (p : Pair). (p.first < vec_len l.units.units) × (p.second < vec_len l.units.units)) l.orders.items;
}
