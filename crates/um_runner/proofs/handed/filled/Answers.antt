use Rattle.std.proofs.Common.{◌∙◌, ◌-◌, ◌++◌, ℕ, List, length, take, replicate, ap, arith}
use Rattle.std.proofs.lemmas.List.{take_all}
use Rattle.um_runner.specs.Handed.{least_bytes}
use Rattle.um_runner.proofs.handed.filled.Goals as goal

-- nothing is cut off
pub returns : goal.returns
returns c =
    let old = c.args.text.items in
    c.in_ok-resize.ensures.items
    ∙ ap (λ (n : ℕ). take least_bytes old ++ replicate (least_bytes - n) 0) c.args.text.ok.0
    ∙ ap (λ (l : List ℕ). l ++ replicate (least_bytes - length old) 0) (take_all least_bytes old (omega (arith, c.len.ensures, c.if-len-ge-LEAST.false, c.args.text.ok.0)))
