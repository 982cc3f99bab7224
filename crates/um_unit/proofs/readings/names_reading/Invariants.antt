use Rattle.std.proofs.Common.{◌≡◌, map, take, string_bytes}
use Rattle.um_unit.specs.Readings.{fits_use, read_as}
use Rattle.um_unit.proofs.readings.names_reading.Given as goal
use Rattle.um_model.specs.FileForms.{unit_reading}

-- the readings of the words so far
abbrev pub invariant-loop-word : goal.invariant-loop-word
invariant-loop-word l = map (read_as string_bytes) l.readings.items ≡ map (unit_reading (fits_use l.uses l.unit) l.unit) (map string_bytes (take l.word-index l.word-items))
