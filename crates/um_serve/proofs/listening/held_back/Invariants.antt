use Rattle.std.proofs.Common.{◌≡◌, ◌<◌, ◌↔◌, ℕ, true, Some, length, slice_get}
use Rattle.um_serve.specs.Rounds.{IsHeldBack}
use Rattle.um_serve.proofs.listening.held_back.Given as goal

abbrev pub invariant-loop-number : goal.invariant-loop-number
invariant-loop-number g l = record {
  each : length l.is_held ≡ 64;
  told : (n : ℕ) → n < l.number → (slice_get l.is_held n ≡ Some true) ↔ IsHeldBack (slice_get l.manager.sessions.items n) (slice_get l.backlog n);
}
