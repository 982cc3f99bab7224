use Rattle.std.proofs.Common.{◌≡◌, ◌<◌, All, length, take}
use Rattle.std.specs.List.{flat_map}
use Rattle.um_graph.specs.Edges.{edge_seen}
use Rattle.um_graph.specs.declared.units.Edge.{Edge}
use Rattle.um_graph.proofs.edges.edges_of.Given as goal

abbrev pub invariant-loop-each : goal.invariant-loop-each
invariant-loop-each l = record {
  edges : l.edges.items ≡ flat_map (edge_seen l.names) (take l.each-index l.told);
  within : All (λ (e : Edge). (e.from < length l.names) × (e.to < length l.names)) l.edges.items;
}
