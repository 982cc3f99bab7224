use Rattle.std.proofs.Common.{◌≡◌, map, take}
use Rattle.um_unit.specs.Readings.{read_as}
use Rattle.um_words.specs.Commands.{command_seen}
use Rattle.um_unit.proofs.readings.commands_reading.Given as goal
use Rattle.um_unit.specs.Readings.{command_reading}

-- the readings of the commands so far
abbrev pub invariant-loop-command : goal.invariant-loop-command
invariant-loop-command l = map (read_as command_seen) l.readings.items ≡ map (command_reading l.unit) (map command_seen (take l.command-index l.command-items))
