use Rattle.std.proofs.Common.{◌≡◌, ◌++◌, List, map, take}
use Rattle.um_unit.specs.View.{warnings_seen}
use Rattle.um_verify.specs.Findings.{warning_place}
use Rattle.um_verify.specs.View.{place_of}
use Rattle.um_verify.specs.declared.finding.Finding.{Finding}
use Rattle.um_verify.proofs.reasons.add_files.Given as goal

-- the warnings of the files so far follow the findings
abbrev pub invariant-loop-file : goal.invariant-loop-file
invariant-loop-file l =
    (rest : List Finding) × (l.findings.items ≡ l.initial.findings.items ++ rest)
    × (map place_of rest ≡ map warning_place (warnings_seen (take l.file-index l.files)))
