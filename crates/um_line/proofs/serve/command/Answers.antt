use Rattle.um_line.proofs.LineReadings.{added, added_last}
use Rattle.um_line.proofs.serve.command.Goals as goal

pub returns : goal.returns
returns c =
    let boot = added _ _ _ _ c.in_ok-command.ensures c.described-command.ensures in
    let socket = added _ _ _ _ c.in_ok-command-2.ensures boot in
    let dir = added _ _ _ _ c.in_ok-command-3.ensures socket in
    let runner = added _ _ _ _ c.in_ok-command-4.ensures dir in
    let start = added _ _ _ _ c.in_ok-command-5.ensures runner in
    let output = added _ _ _ _ c.in_ok-command-6.ensures start in
    let size = added _ _ _ _ c.in_ok-command-7.ensures output in added_last _ _ _ _ c.with_word.ensures size
