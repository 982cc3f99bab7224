use Rattle.std.proofs.Common.{◌≡◌, flat_map, map, take}
use Rattle.serde_json.specs.View.{view}
use Rattle.um_status.specs.Status.{file_given}
use Rattle.um_status.proofs.in_hand.files_given.Given as goal

-- the files so far
abbrev pub invariant-loop-file : goal.invariant-loop-file
invariant-loop-file l = map (λ g. (g.0.now, g.1.now)) l.given.items ≡ flat_map file_given (map view (take l.file-index l.files))
