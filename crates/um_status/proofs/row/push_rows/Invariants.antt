use Rattle.std.proofs.Common.{◌≡◌, ◌++◌, flat_map, map, take, string_bytes}
use Rattle.um_status.specs.Status.{row_text}
use Rattle.um_status.specs.View.{row_view, widths_view}
use Rattle.um_status.proofs.row.push_rows.Given as goal

-- the rows so far follow the text
abbrev pub invariant-loop-row : goal.invariant-loop-row
invariant-loop-row l =
    string_bytes l.text ≡ string_bytes l.initial.text ++ flat_map (row_text (widths_view l.widths)) (map row_view (take l.row-index l.rows))
