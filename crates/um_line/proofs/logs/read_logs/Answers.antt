use Rattle.um_line.specs.Line.{TakesLogs, logs_words}
use Rattle.um_line.proofs.LineReadings.{read_by, mistaken_by, logs_simple, logs_plain}
use Rattle.um_line.proofs.logs.read_logs.Goals as goal

pub returns-in-Ok : goal.returns-in-Ok
returns-in-Ok c =
    read_by _ logs_words _ TakesLogs _ c.logs_line.result c.in_ok-command.ensures logs_simple logs_plain c.in-Ok.ensures.kinds c.in-Ok.ensures.matches c.logs_line.ensures

pub returns-in-Err : goal.returns-in-Err
returns-in-Err c =
    mistaken_by _ logs_words _ _ c.in-Err.mistake c.line_of_mistake.result c.in_ok-command.ensures logs_simple c.in-Err.ensures.kinds c.line_of_mistake.ensures.line
    c.line_of_mistake.ensures.memory
