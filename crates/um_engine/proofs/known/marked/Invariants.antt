use Rattle.std.proofs.Common.{take}
use Rattle.um_engine.specs.Known.{AreMarked}
use Rattle.um_engine.proofs.known.marked.Given as goal

-- just the numbers of those so far are marked
abbrev pub invariant-loop-unit : goal.invariant-loop-unit
invariant-loop-unit l = AreMarked l.graph.names (take l.unit-index l.units) l.marks.items
