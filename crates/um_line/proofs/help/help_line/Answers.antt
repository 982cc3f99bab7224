use Rattle.std.proofs.Common.{rules, tests}
use Rattle.um_line.proofs.LineReadings.{wrong_word}
use Rattle.um_line.proofs.help.help_line.Goals as goal

pub returns-in_ok-from_str-2 : goal.returns-in_ok-from_str-2
returns-in_ok-from_str-2 c = wrong_word c.args.word.now c.in_default.ensures (search (rules, tests)) (search (rules, tests)) (search (rules, tests))
