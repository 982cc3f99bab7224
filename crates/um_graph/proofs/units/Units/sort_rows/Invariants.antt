use Rattle.std.proofs.Common.{◌≡◌, ◌<◌, ℕ, List, map, vec_len}
use Rattle.um_graph.specs.Edges.{unit_seen}
use Rattle.um_graph.specs.Rows.{AreRows, Bond}
use Rattle.um_graph.specs.Sorted.{IsSortedAt}
use Rattle.um_graph.proofs.units.Units.sort_rows.Given as goal

abbrev pub invariant-loop-x : goal.invariant-loop-x
invariant-loop-x l = record {
  same : map unit_seen l.self.units.items ≡ map unit_seen l.initial.self.units.items;
  len : vec_len l.self.units ≡ vec_len l.initial.self.units;
  rows : (bonds : List Bond) → AreRows bonds l.initial.self.units.items → AreRows bonds l.self.units.items × ((z : ℕ) → z < l.x → IsSortedAt l.self.units.items z);
}
