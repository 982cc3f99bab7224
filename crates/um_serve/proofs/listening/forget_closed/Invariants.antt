use Rattle.std.proofs.Common.{◌≡◌, ◌<◌, ◌≤◌, ℕ, slice_get}
use Rattle.um_serve.specs.Rounds.{after_piece}
use Rattle.um_serve.proofs.listening.forget_closed.Given as goal

abbrev pub invariant-loop-number : goal.invariant-loop-number
invariant-loop-number l = record {
  gone : (n : ℕ) → n < l.number → slice_get l.backlog n ≡ after_piece (slice_get l.pieces n) (slice_get l.initial.backlog n);
  wait : (n : ℕ) → l.number ≤ n → slice_get l.backlog n ≡ slice_get l.initial.backlog n;
}
