-- The frame of a call over a gate and a clock: the parts it leaves as they were, whatever else it does and whatever it answers.
-- No manual page has it: it is the project's own.
-- Backlogs of clients, the rounds and `serve` stand on this file.
use Rattle.std.specs.Prelude.{◌≡◌, IsTrue}
use Rattle.um_gate.specs.declared.clock.Moments as clock
use Rattle.um_gate.specs.declared.gate.Gate as gate

-- A gate after a call is as honest as before it; and if nothing is missing from its history after it, nothing was
-- before.
pub record KeepsGate {G : Type 0} (g : gate.Ghosts G) (old new : G) : Type 0 where
  pub honest : g.honest new ≡ g.honest old
  pub whole : IsTrue (g.whole new) → IsTrue (g.whole old)

-- the same of a clock, and of the moments that it gave
pub record KeepsClock {M : Type 0} (m : clock.Ghosts M) (old new : M) : Type 0 where
  pub honest : m.honest new ≡ m.honest old
  pub whole : IsTrue (m.whole new) → IsTrue (m.whole old)
