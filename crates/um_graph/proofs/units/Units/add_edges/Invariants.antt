use Rattle.std.proofs.Common.{◌≡◌, [], map, take, vec_len}
use Rattle.std.specs.List.{flat_map}
use Rattle.um_graph.specs.Edges.{edge_bonds, unit_seen}
use Rattle.um_graph.specs.Rows.{AreRows}
use Rattle.um_graph.proofs.units.Units.add_edges.Given as goal

abbrev pub invariant-loop-edge : goal.invariant-loop-edge
invariant-loop-edge l = record {
  same : map unit_seen l.self.units.items ≡ map unit_seen l.initial.self.units.items;
  len : vec_len l.self.units ≡ vec_len l.initial.self.units;
  bonds : AreRows [] l.initial.self.units.items → AreRows (flat_map edge_bonds (take l.edge-index l.edges)) l.self.units.items;
}
