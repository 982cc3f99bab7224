use Rattle.um_serve.proofs.ScanLaws.{AreKept, IsFound}
use Rattle.um_serve.proofs.deadlines.next_deadline.Given as goal

abbrev pub invariant-loop-unit : goal.invariant-loop-unit
invariant-loop-unit l = record {
  kept : AreKept l.unit-items l.moment l.next l.unit-index;
  found : IsFound l.unit-items l.moment l.next;
}
