use Rattle.std.proofs.Common.{◌≡◌, ◌≤◌, ◌+◌, ◌^◌, drop}
use Rattle.um_model.specs.Values.{decimal}
use Rattle.um_value.proofs.DecimalLemmas.{decimal_after}
use Rattle.um_value.proofs.numbers.decimal.Given as goal

abbrev pub invariant-loop-digit : goal.invariant-loop-digit
invariant-loop-digit l = record { told : decimal_after l.number (drop l.digit-index l.digits) ≡ decimal l.digits; small : l.number ≤ 2 ^ 62 + 255 }
