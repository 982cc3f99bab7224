use Rattle.std.proofs.Common.{ℕ, ◌≡◌, ◌<◌, true}
use Rattle.um_transact.specs.Situation.{is_fine_at}
use Rattle.um_transact.proofs.demands.are_fine.Given as goal

abbrev pub invariant-loop-unit : goal.invariant-loop-unit
invariant-loop-unit l = (u : ℕ) → u < l.unit → is_fine_at l.graph l.marks u ≡ true
