use Rattle.um_line.proofs.LineReadings.{added, added_last}
use Rattle.um_line.proofs.logs.command.Goals as goal

pub returns : goal.returns
returns c =
    let output = added _ _ _ _ c.in_ok-command.ensures c.described-command.ensures in
    let lines = added _ _ _ _ c.in_ok-command-2.ensures output in
    let follow = added _ _ _ _ c.in_ok-command-3.ensures lines in
    let raw = added _ _ _ _ c.in_ok-command-4.ensures follow in added_last _ _ _ _ c.with_word.ensures raw
