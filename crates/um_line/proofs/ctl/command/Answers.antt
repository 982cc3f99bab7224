use Rattle.um_line.proofs.LineReadings.{added, added_last}
use Rattle.um_line.proofs.ctl.command.Goals as goal

pub returns : goal.returns
returns c =
    let socket = added _ _ _ _ c.in_ok-command.ensures c.described-command.ensures in
    let retry = added _ _ _ _ c.in_ok-command-2.ensures socket in
    let timeout = added _ _ _ _ c.in_ok-command-3.ensures retry in
    let mode = added _ _ _ _ c.in_ok-command-4.ensures timeout in
    let wait = added _ _ _ _ c.in_ok-command-5.ensures mode in
    let dry_run = added _ _ _ _ c.in_ok-command-6.ensures wait in
    let all = added _ _ _ _ c.in_ok-command-7.ensures dry_run in added_last _ _ _ _ c.with_words.ensures all
