use Rattle.um_line.specs.Line.{TakesCheck, check_words}
use Rattle.um_line.proofs.LineReadings.{read_by, mistaken_by, check_simple, check_plain}
use Rattle.um_line.proofs.check.read_check.Goals as goal

pub returns-in-Ok : goal.returns-in-Ok
returns-in-Ok c =
    read_by _ check_words _ TakesCheck _ c.check_line.result c.in_ok-command.ensures check_simple check_plain c.in-Ok.ensures.kinds c.in-Ok.ensures.matches c.check_line.ensures

pub returns-in-Err : goal.returns-in-Err
returns-in-Err c =
    mistaken_by _ check_words _ _ c.in-Err.mistake c.line_of_mistake.result c.in_ok-command.ensures check_simple c.in-Err.ensures.kinds c.line_of_mistake.ensures.line
    c.line_of_mistake.ensures.memory
