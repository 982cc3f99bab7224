use Rattle.std.proofs.Common.{◌≡◌, map, take}
use Rattle.um_model.specs.Units as units
use Rattle.um_resolve.specs.View.{unit_file_of}
use Rattle.um_verify.specs.View.{source_seen}
use Rattle.um_verify.proofs.spots.readings.Given as goal

-- the files so far
abbrev pub invariant-loop-file : goal.invariant-loop-file
invariant-loop-file l = map source_seen l.readings.items ≡ map units.source_of (map unit_file_of (take l.file-index l.files))
