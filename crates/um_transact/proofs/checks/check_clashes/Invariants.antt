use Rattle.std.proofs.Common.{ℕ, ◌<◌}
use Rattle.um_model.specs.Refusals.{Refused}
use Rattle.um_transact.specs.Checks.{ClashesBy}
use Rattle.um_transact.proofs.checks.check_clashes.Given as goal

abbrev pub invariant-loop-unit : goal.invariant-loop-unit
invariant-loop-unit l = (u : ℕ) → u < l.unit → (r : Refused) → ¬ ClashesBy l.graph l.marks u r
