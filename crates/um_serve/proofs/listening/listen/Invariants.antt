use Rattle.std.proofs.Common.{◌≡◌, ◌<◌, ◌≤◌, ◌+◌, ℕ, true, false, IsTrue, Some, slice_get, vec_len}
use Rattle.um_gate.specs.Events.{Logs}
use Rattle.um_manager.specs.declared.pieces.Piece.TheVariants.{Nothing}
use Rattle.um_serve.specs.Rounds.{reads_below, IsSilent}
use Rattle.um_serve.proofs.listening.listen.Given as goal

abbrev pub invariant-loop-number : goal.invariant-loop-number
invariant-loop-number g l = record {
  left : 64 ≤ vec_len l.blanks + l.number;
  past : Logs (g.G.Gate.honest l.initial.gate) (g.G.Gate.whole l.gate) (g.G.Gate.past l.initial.gate) (g.G.Gate.past l.gate)
      (reads_below l.number l.accepted.is_open l.held.is_held l.pieces);
  only_open : (n : ℕ) → n < l.number → slice_get l.accepted.is_open n ≡ Some false → slice_get l.pieces n ≡ Some Nothing;
  none_of_held : (n : ℕ) → n < l.number → slice_get l.held.is_held n ≡ Some true → IsSilent (slice_get l.pieces n);
  whole : IsTrue (g.G.Gate.whole l.gate) → IsTrue (g.G.Gate.whole l.initial.gate);
  honest : g.G.Gate.honest l.gate ≡ g.G.Gate.honest l.initial.gate;
}
