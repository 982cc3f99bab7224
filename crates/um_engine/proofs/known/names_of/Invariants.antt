use Rattle.std.proofs.Common.{◌≡◌, take}
use Rattle.um_engine.proofs.known.names_of.Given as goal

-- the names so far
abbrev pub invariant-loop-unit : goal.invariant-loop-unit
invariant-loop-unit l = l.listed.items ≡ take l.unit l.graph.names
