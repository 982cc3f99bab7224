use Rattle.std.proofs.Common.{ℕ, ◌<◌}
use Rattle.um_model.specs.Refusals.{Refused}
use Rattle.um_transact.specs.Checks.{DropsBy}
use Rattle.um_transact.proofs.checks.check_drops.Given as goal

abbrev pub invariant-loop-unit : goal.invariant-loop-unit
invariant-loop-unit l = (u : ℕ) → u < l.unit → (r : Refused) → ¬ DropsBy l.graph l.mode l.pending l.plan u r
