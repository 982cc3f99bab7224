use Rattle.um_transact.specs.Situation.{AreTested}
use Rattle.um_transact.proofs.AlongLaws.{FoundAlong}
use Rattle.um_transact.proofs.demands.brought_along.Given as goal

abbrev pub invariant-loop-neighbour : goal.invariant-loop-neighbour
invariant-loop-neighbour l = FoundAlong l.graph l.activity l.fn.demand l.neighbour-items l.neighbour-index l.found.items × AreTested l.graph l.activity l.tested.items
