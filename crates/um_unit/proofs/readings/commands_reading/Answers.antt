use Rattle.std.proofs.Common.{◌≡◌, map, sym, ap, ◌∙◌, option_map}
use Rattle.std.proofs.lemmas.List.{take_all}
use Rattle.um_unit.specs.Readings.{read_as}
use Rattle.um_unit.proofs.ReadingLemmas.{commands_by, read_all}
use Rattle.um_words.specs.Commands.{command_seen, commands_seen}
use Rattle.um_unit.proofs.readings.commands_reading.Goals as goal
use Rattle.um_unit.specs.Readings.{command_reading}

pub returns : goal.returns
returns c =
    let unit = c.args.unit.now in
    let commands = c.in-Some.commands.items in
    let seen : map (read_as command_seen) c.loop-command.readings.items ≡ map (command_reading unit) (map command_seen commands) =
    c.loop-command.invariant ∙ ap (λ xs. map (command_reading unit) (map command_seen xs)) (take_all _ c.deref-command-items.result.now c.loop-command-test.false)
    ∙ ap (λ xs. map (command_reading unit) (map command_seen xs)) c.deref-command-items.ensures.value in
    read_all command_seen (λ all. all.items) c.in_ok-read.read c.loop-command.readings.items _ c.in_ok-read.ensures seen
    ∙ sym (commands_by unit c.args.value.now (commands_seen commands) (sym c.in_ok-commands.ensures ∙ ap (option_map (λ all. commands_seen all.items)) c.in-Some.is))
