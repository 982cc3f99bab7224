use Rattle.std.proofs.Common.{option_map, Some, inl, inr, sym, ap, ◌∙◌, arith}
use Rattle.um_line.proofs.LineReadings.{outside}
use Rattle.um_line.proofs.numbers.limited.Goals as goal

pub returns-then-number-from : goal.returns-then-number-from
returns-then-number-from c =
    outside c.args.low c.args.high c.in_ok-number.number c.as_bytes.result.now _
    (ap (option_map (λ s. s.now)) c.in_ok-text.was ∙ ap Some (sym c.as_bytes.ensures.value)) c.in_ok-number.ensures (omega arith) (omega arith) (inl (omega arith))

pub returns-then-number-from-2 : goal.returns-then-number-from-2
returns-then-number-from-2 c =
    outside c.args.low c.args.high c.in_ok-number.number c.as_bytes.result.now _
    (ap (option_map (λ s. s.now)) c.in_ok-text.was ∙ ap Some (sym c.as_bytes.ensures.value)) c.in_ok-number.ensures (omega arith) (omega arith) (inr (omega arith))
