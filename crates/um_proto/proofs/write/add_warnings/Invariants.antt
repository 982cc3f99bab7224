use Rattle.std.proofs.Common.{◌≡◌, ◌++◌, drop, map, string_bytes}
use Rattle.um_proto.specs.Written.{warnings_text}
use Rattle.um_unit.specs.View.{warning_of}
use Rattle.um_proto.proofs.write.add_warnings.Given as goal

-- the text, followed by the remaining warnings, is the result
abbrev pub invariant-loop-warning : goal.invariant-loop-warning
invariant-loop-warning l =
    let told = warning_of (string_bytes l.file.path) in
    l.text.items ++ warnings_text (map told (drop l.warning-index l.file.warnings.items)) ≡ l.fn.text.items ++ warnings_text (map told l.file.warnings.items)
