use Rattle.std.proofs.Common.{◌≡◌, map, take, string_bytes}
use Rattle.um_unit.specs.Readings.{read_as}
use Rattle.um_words.specs.Environment.{variable_of}
use Rattle.um_unit.proofs.readings.environment_reading.Given as goal
use Rattle.um_unit.specs.Readings.{variable_reading}

-- the readings of the words so far
abbrev pub invariant-loop-word : goal.invariant-loop-word
invariant-loop-word l = map (read_as variable_of) l.readings.items ≡ map (variable_reading l.unit) (map string_bytes (take l.word-index l.word-items))
