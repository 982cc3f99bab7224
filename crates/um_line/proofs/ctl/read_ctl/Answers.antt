use Rattle.um_line.specs.Line.{TakesCtl, ctl_words}
use Rattle.um_line.proofs.LineReadings.{read_by, mistaken_by, ctl_simple, ctl_plain}
use Rattle.um_line.proofs.ctl.read_ctl.Goals as goal

pub returns-in-Ok : goal.returns-in-Ok
returns-in-Ok c =
    read_by _ ctl_words _ TakesCtl _ c.ctl_line.result c.in_ok-command.ensures ctl_simple ctl_plain c.in-Ok.ensures.kinds c.in-Ok.ensures.matches c.ctl_line.ensures

pub returns-in-Err : goal.returns-in-Err
returns-in-Err c =
    mistaken_by _ ctl_words _ _ c.in-Err.mistake c.line_of_ctl_mistake.result c.in_ok-command.ensures ctl_simple c.in-Err.ensures.kinds c.line_of_ctl_mistake.ensures.line
    c.line_of_ctl_mistake.ensures.memory
