use Rattle.std.proofs.Common.{◌<◌, ◌^◌, length, map, string_bytes, refl, sym, ◌∙◌, arith}
use Rattle.std.proofs.lemmas.List.{length-map}
use Rattle.um_runner.proofs.RunnerLines.{no_number, no_count, no_command, is_line}
use Rattle.um_runner.proofs.line.RunnerLine.counted.Goals as goal

pub returns-in_err-number : goal.returns-in_err-number
returns-in_err-number c = rw c.from_residual-in_err-number.ensures
    (no_number (map string_bytes c.args.words.now) _ _ _ _ c.in_ok-options.ensures (λ n low high e. c.in_err-number.ensures n low high (c.as_str.ensures.value ∙ e)))

pub returns-in_err-count : goal.returns-in_err-count
returns-in_err-count c =
    let small : length (map string_bytes c.args.words.now) < 2 ^ 64 = omega (arith, length-map c.args.words.now string_bytes) in
    rw c.from_residual-in_err-count.ensures
    (no_count (map string_bytes c.args.words.now) _ _ _ _ c.in_ok-options.ensures small (λ n below e. c.in_err-count.ensures n below (c.as_bytes.ensures.value ∙ e)))

pub returns-in_err-of : goal.returns-in_err-of
returns-in_err-of c =
    let small : length (map string_bytes c.args.words.now) < 2 ^ 64 = omega (arith, length-map c.args.words.now string_bytes) in
    rw c.from_residual-in_err-of.ensures
    (no_command (map string_bytes c.args.words.now) _ _ _ _ c.in_ok-options.ensures small c.in_ok-count.count (omega arith) (sym c.as_bytes.ensures.value ∙ c.in_ok-count.ensures) c.in_err-of.ensures)

pub returns : goal.returns
returns c = (
  refl,
  is_line (map string_bytes c.args.words.now) _ _ _ _ c.in_ok-options.ensures c.as_str-2.result.now c.as_str-2.ensures.value c.in_ok-number.number (omega arith) (omega arith)
      (sym c.as_str.ensures.value ∙ c.in_ok-number.ensures) c.in_ok-count.count (sym c.as_bytes.ensures.value ∙ c.in_ok-count.ensures) c.in_ok-of.field-0 c.in_ok-of.ensures,
)
