use Rattle.std.proofs.Common.{◌≡◌, ◌++◌, flat_map, map, take, string_bytes}
use Rattle.um_status.specs.Status.{detail_line}
use Rattle.um_status.proofs.details.push_lines.Given as goal

-- the lines so far follow the text
abbrev pub invariant-loop-line : goal.invariant-loop-line
invariant-loop-line l =
    string_bytes l.text ≡ string_bytes l.initial.text ++ flat_map detail_line (map string_bytes (take l.line-index l.lines))
