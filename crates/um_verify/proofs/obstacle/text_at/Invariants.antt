use Rattle.std.proofs.Common.{◌≡◌, map, drop}
use Rattle.um_resolve.specs.View.{unit_file_of}
use Rattle.um_verify.specs.Findings.{text_at}
use Rattle.um_verify.proofs.obstacle.text_at.Given as goal

-- none of the files so far is at the path
abbrev pub invariant-loop-file : goal.invariant-loop-file
invariant-loop-file l = text_at l.path (map unit_file_of (drop l.file-index l.files)) ≡ text_at l.path (map unit_file_of l.files)
