use Rattle.std.proofs.Common.{◌≡◌, ◌++◌, List, map, take, string_bytes}
use Rattle.um_unit.specs.View.{warning_of}
use Rattle.um_verify.specs.Findings.{warning_place}
use Rattle.um_verify.specs.View.{place_of}
use Rattle.um_verify.specs.declared.finding.Finding.{Finding}
use Rattle.um_verify.proofs.reasons.add_file.Given as goal

-- the warnings so far follow the findings
abbrev pub invariant-loop-warning : goal.invariant-loop-warning
invariant-loop-warning l =
    (rest : List Finding) × (l.findings.items ≡ l.initial.findings.items ++ rest)
    × (map place_of rest ≡ map warning_place (map (warning_of (string_bytes l.file.path)) (take l.warning-index l.file.warnings.items)))
