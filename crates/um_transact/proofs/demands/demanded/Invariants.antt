use Rattle.std.proofs.Common.{◌+◌, sum_by, length}
use Rattle.um_transact.specs.Situation.{AreTested, LeadsAlongBy}
use Rattle.um_transact.specs.Walk.{unmarked}
use Rattle.um_transact.proofs.WalkLaws.{IsUnderWay}
use Rattle.um_transact.proofs.demands.demanded.Given as goal

abbrev pub invariant-loop-demand : goal.invariant-loop-demand
invariant-loop-demand l = IsUnderWay (LeadsAlongBy l.graph l.activity) l.fn.root (length l.graph.names) l.walk.marks.items l.walk.list.items × AreTested l.graph l.activity l.tested.items

abbrev pub decreases-loop-demand : goal.decreases-loop-demand
decreases-loop-demand l = sum_by unmarked l.walk.marks.items + length l.walk.list.items
