use Rattle.std.proofs.Common.{◌≡◌, ◌++◌, flat_map, map, take, string_bytes}
use Rattle.serde_json.specs.View.{view}
use Rattle.um_status.specs.Status.{warning_line}
use Rattle.um_status.proofs.details.push_warnings.Given as goal

-- the warnings so far follow the text
abbrev pub invariant-loop-value : goal.invariant-loop-value
invariant-loop-value l =
    string_bytes l.text ≡ string_bytes l.initial.text ++ flat_map warning_line (map view (take l.value-index l.values))
