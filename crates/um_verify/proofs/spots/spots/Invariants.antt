use Rattle.std.proofs.Common.{◌≡◌, map, take, Some}
use Rattle.um_verify.specs.Findings.{all_spots}
use Rattle.um_verify.specs.View.{source_seen, spot_of}
use Rattle.um_verify.proofs.spots.spots.Given as goal

-- the assignments of the files so far
abbrev pub invariant-loop-reading : goal.invariant-loop-reading
invariant-loop-reading l = map spot_of l.spots.items ≡ all_spots (Some l.suffix) (map source_seen (take l.reading-index l.readings))
