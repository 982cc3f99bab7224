use Rattle.um_line.specs.Line.{TakesStatus, status_words}
use Rattle.um_line.proofs.LineReadings.{read_by, mistaken_by, status_simple, status_plain}
use Rattle.um_line.proofs.status.read_status.Goals as goal

pub returns-in-Ok : goal.returns-in-Ok
returns-in-Ok c =
    read_by _ status_words _ TakesStatus _ c.status_line.result c.in_ok-command.ensures status_simple status_plain c.in-Ok.ensures.kinds c.in-Ok.ensures.matches c.status_line.ensures

pub returns-in-Err : goal.returns-in-Err
returns-in-Err c =
    mistaken_by _ status_words _ _ c.in-Err.mistake c.line_of_mistake.result c.in_ok-command.ensures status_simple c.in-Err.ensures.kinds c.line_of_mistake.ensures.line
    c.line_of_mistake.ensures.memory
