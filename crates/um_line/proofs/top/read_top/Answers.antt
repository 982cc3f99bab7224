use Rattle.um_line.specs.Line.{umd_words}
use Rattle.um_line.proofs.LineReadings.{mistaken_by, umd_simple}
use Rattle.um_line.proofs.top.read_top.Goals as goal

pub returns : goal.returns
returns c =
    mistaken_by _ umd_words _ _ c.in-Err.mistake c.line_of_top_mistake.result c.in_ok-command.ensures umd_simple c.in-Err.ensures.kinds c.line_of_top_mistake.ensures.line
    c.line_of_top_mistake.ensures.memory
