use Rattle.um_line.specs.Line.{TakesServe, serve_words}
use Rattle.um_line.proofs.LineReadings.{read_by, mistaken_by, serve_simple, serve_plain}
use Rattle.um_line.proofs.serve.read_serve.Goals as goal

pub returns-in-Ok : goal.returns-in-Ok
returns-in-Ok c =
    read_by _ serve_words _ TakesServe _ c.serve_line.result c.in_ok-command.ensures serve_simple serve_plain c.in-Ok.ensures.kinds c.in-Ok.ensures.matches c.serve_line.ensures

pub returns-in-Err : goal.returns-in-Err
returns-in-Err c =
    mistaken_by _ serve_words _ _ c.in-Err.mistake c.line_of_mistake.result c.in_ok-command.ensures serve_simple c.in-Err.ensures.kinds c.line_of_mistake.ensures.line
    c.line_of_mistake.ensures.memory
