use Rattle.std.proofs.Common.{◌≡◌, None, replicate}
use Rattle.um_gate.proofs.fake.free_places.Given as goal

abbrev pub invariant-loop : goal.invariant-loop
invariant-loop l = record { free : l.places.items ≡ replicate l.counter None }
