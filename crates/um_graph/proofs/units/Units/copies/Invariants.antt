use Rattle.std.proofs.Common.{◌≡◌, take}
use Rattle.um_graph.specs.Edges.{names_of}
use Rattle.um_graph.proofs.units.Units.copies.Given as goal

abbrev pub invariant-loop-unit : goal.invariant-loop-unit
invariant-loop-unit l = l.copies.items ≡ names_of (take l.unit-index l.self.units.items)
