use Rattle.std.proofs.Common.{◌≡◌, ◌<◌, ◌≤◌, ℕ, List, IsTrue, slice_get}
use Rattle.um_gate.specs.Events.{Event, Logs}
use Rattle.um_serve.specs.Rounds.{Empties, SaysBelow, any_stirred}
use Rattle.um_serve.proofs.rounds.speak.Given as goal

abbrev pub invariant-loop-number : goal.invariant-loop-number
invariant-loop-number g l = record {
  empties : (n : ℕ) → n < l.number → Empties (slice_get l.initial.manager.sessions.items n) (slice_get l.manager.sessions.items n);
  same : (n : ℕ) → l.number ≤ n → slice_get l.manager.sessions.items n ≡ slice_get l.initial.manager.sessions.items n;
  keeper : l.manager.keeper ≡ l.initial.manager.keeper;
  children : l.manager.children ≡ l.initial.manager.children;
  marks : l.manager.marks ≡ l.initial.manager.marks;
  says : (said : List Event) × SaysBelow l.number l.initial.manager.sessions.items l.initial.backlog said l.backlog
      × Logs (g.G.Gate.honest l.initial.gate) (g.G.Gate.whole l.gate) (g.G.Gate.past l.initial.gate) (g.G.Gate.past l.gate) said;
  wait : (n : ℕ) → l.number ≤ n → slice_get l.backlog n ≡ slice_get l.initial.backlog n;
  stirred : l.is_stirred ≡ any_stirred l.number l.initial.manager.sessions.items l.initial.backlog l.backlog;
  events : IsTrue (g.G.Gate.whole l.gate) → IsTrue (g.G.Gate.whole l.initial.gate);
  gate : g.G.Gate.honest l.gate ≡ g.G.Gate.honest l.initial.gate;
}
