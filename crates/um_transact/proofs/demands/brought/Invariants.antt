use Rattle.std.proofs.Common.{◌≡◌, take}
use Rattle.um_transact.specs.Walk.{brought}
use Rattle.um_transact.proofs.demands.brought.Given as goal

abbrev pub invariant-loop-neighbour : goal.invariant-loop-neighbour
invariant-loop-neighbour l = l.found.items ≡ brought l.activity l.demand.0 (take l.neighbour-index l.neighbour-items)
