use Rattle.std.proofs.Common.{◌≡◌, ◌<◌, ℕ, Some, length, slice_get}
use Rattle.um_gate.specs.Fakes.{client_at, is_there}
use Rattle.um_gate.proofs.fake.open_of.Given as goal

abbrev pub invariant-loop-number : goal.invariant-loop-number
invariant-loop-number l = record {
  each : length l.is_open ≡ 64;
  told : (n : ℕ) → n < l.number → slice_get l.is_open n ≡ Some (is_there (client_at n l.places));
}
