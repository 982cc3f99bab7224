use Rattle.std.proofs.Common.{◌≡◌, ◌++◌, [], All, map}
use Rattle.um_graph.specs.Edges.{unit_seen}
use Rattle.um_graph.specs.declared.units.Unit.{Unit}
use Rattle.um_graph.proofs.units.Units.of.Given as goal

abbrev pub invariant-loop-name : goal.invariant-loop-name
invariant-loop-name l = record {
  units : map unit_seen l.units.items ++ l.name-iterator ≡ l.initial.name-iterator;
  empty : All (λ (u : Unit). u.row.neighbours.entries ≡ []) l.units.items;
}
