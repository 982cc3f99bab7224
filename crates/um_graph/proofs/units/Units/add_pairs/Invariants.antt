use Rattle.std.proofs.Common.{◌≡◌, ◌++◌, List, map, take, vec_len}
use Rattle.std.specs.List.{flat_map}
use Rattle.um_graph.specs.Edges.{pair_bonds, unit_seen}
use Rattle.um_graph.specs.Rows.{AreRows, Bond}
use Rattle.um_graph.proofs.units.Units.add_pairs.Given as goal

abbrev pub invariant-loop-pair : goal.invariant-loop-pair
invariant-loop-pair l = record {
  same : map unit_seen l.self.units.items ≡ map unit_seen l.initial.self.units.items;
  len : vec_len l.self.units ≡ vec_len l.initial.self.units;
  bonds : (bonds : List Bond) → AreRows bonds l.initial.self.units.items → AreRows (bonds ++ flat_map pair_bonds (take l.pair-index l.pairs)) l.self.units.items;
}
