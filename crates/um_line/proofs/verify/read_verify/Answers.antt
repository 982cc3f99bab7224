use Rattle.um_line.specs.Line.{TakesVerify, verify_words}
use Rattle.um_line.proofs.LineReadings.{read_by, mistaken_by, verify_simple, verify_plain}
use Rattle.um_line.proofs.verify.read_verify.Goals as goal

pub returns-in-Ok : goal.returns-in-Ok
returns-in-Ok c =
    read_by _ verify_words _ TakesVerify _ c.verify_line.result c.in_ok-command.ensures verify_simple verify_plain c.in-Ok.ensures.kinds c.in-Ok.ensures.matches c.verify_line.ensures

pub returns-in-Err : goal.returns-in-Err
returns-in-Err c =
    mistaken_by _ verify_words _ _ c.in-Err.mistake c.line_of_mistake.result c.in_ok-command.ensures verify_simple c.in-Err.ensures.kinds c.line_of_mistake.ensures.line
    c.line_of_mistake.ensures.memory
