use Rattle.std.proofs.Common.{rules, arith}
use Rattle.um_engine.proofs.Steps.{none_stands}
use Rattle.um_model.proofs.TimersLaws.{first_is_late}
use Rattle.um_engine.proofs.settling.next_due.Goals as goal

pub returns-in_default : goal.returns-in_default
returns-in_default c = none_stands c.args.moment c.args.timers.now (search rules)

pub returns-then-micros : goal.returns-then-micros
returns-then-micros c =
    first_is_late c.args.moment c.args.timers.now c.in-Some.deadline-1-own.given.0.0.0 c.in-Some.deadline-1-own.given.0.0.1.now (search rules)
    (let value = c.micros.ensures.value in let other = c.micros-2.ensures.value in omega (arith, c.if-micros.true))
