use Rattle.um_line.specs.Line.{TakesCreate, create_words}
use Rattle.um_line.proofs.LineReadings.{read_by, mistaken_by, create_simple, create_plain}
use Rattle.um_line.proofs.create.read_create.Goals as goal

pub returns-in-Ok : goal.returns-in-Ok
returns-in-Ok c =
    read_by _ create_words _ TakesCreate _ c.create_line.result c.in_ok-command.ensures create_simple create_plain c.in-Ok.ensures.kinds c.in-Ok.ensures.matches c.create_line.ensures

pub returns-in-Err : goal.returns-in-Err
returns-in-Err c =
    mistaken_by _ create_words _ _ c.in-Err.mistake c.line_of_mistake.result c.in_ok-command.ensures create_simple c.in-Err.ensures.kinds c.line_of_mistake.ensures.line
    c.line_of_mistake.ensures.memory
