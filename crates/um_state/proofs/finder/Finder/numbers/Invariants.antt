use Rattle.std.proofs.Common.{◌↔◌, ℕ, Contains, take}
use Rattle.um_state.proofs.HadLaws.{AreTold}
use Rattle.um_state.proofs.finder.Finder.numbers.Given as goal

-- the numbers found so far
abbrev pub invariant-loop-live : goal.invariant-loop-live
invariant-loop-live l = (n : ℕ) → Contains l.numbers.items n ↔ AreTold l.rows (take l.live-index l.live-items) n
