use Rattle.std.proofs.Common.{◌≡◌, ◌∷◌, rules, tests, arith}
use Rattle.um_line.proofs.LineReadings.{no_code}
use Rattle.um_line.proofs.help.code_in.Goals as goal

pub returns-then-number-lt1 : goal.returns-then-number-lt1
returns-then-number-lt1 c =
    let is : c.args.word.now ≡ c.in_ok-first.first.now ∷ c.in_ok-first.digits.now = search (rules, tests) in
    no_code c.in_ok-number.number c.in_ok-first.first.now c.args.word.now c.in_ok-first.digits.now is c.in_ok-number.ensures (omega arith) c.then-number-lt1.either
