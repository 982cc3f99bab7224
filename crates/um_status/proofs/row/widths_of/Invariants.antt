use Rattle.std.proofs.Common.{◌≡◌, fold, map, take}
use Rattle.um_status.specs.Status.{header, no_width, wider}
use Rattle.um_status.specs.View.{row_view, widths_view}
use Rattle.um_status.proofs.row.widths_of.Given as goal

-- wide enough for the rows so far
abbrev pub invariant-loop-row : goal.invariant-loop-row
invariant-loop-row l = widths_view l.widths ≡ fold wider (wider no_width header) (map row_view (take l.row-index l.rows))
