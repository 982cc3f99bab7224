use Rattle.std.proofs.Common.{◌≡◌, map, drop, string_bytes}
use Rattle.um_unit.specs.Readings.{read_as}
use Rattle.um_unit.proofs.readings.first_warning.Given as goal
use Rattle.um_unit.specs.Readings.{first_warning}

-- the readings so far give no warning
abbrev pub invariant-loop-reading : goal.invariant-loop-reading
invariant-loop-reading l = first_warning (map (read_as string_bytes) (drop l.reading-index l.readings)) ≡ first_warning (map (read_as string_bytes) l.readings)
