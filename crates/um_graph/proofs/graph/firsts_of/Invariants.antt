use Rattle.std.proofs.Common.{◌≡◌, map, take}
use Rattle.std.specs.Map.{values_of}
use Rattle.um_graph.specs.Graph.{first_after}
use Rattle.um_graph.proofs.graph.firsts_of.Given as goal

-- those of the units so far
abbrev pub invariant-loop-unit : goal.invariant-loop-unit
invariant-loop-unit l = l.firsts.items ≡ map first_after (map (λ u. values_of u.row.neighbours.entries) (take l.unit-index l.unit-items))
