-- The units and rows of the code as those of the definitions.
use Rattle.std.specs.Prelude.{string_bytes}
use Rattle.um_status.specs.Status as model
use Rattle.um_status.specs.declared.row.Row.{Row}
use Rattle.um_status.specs.declared.row.Widths.{Widths}
use Rattle.um_status.specs.declared.unit.UnitShown.{UnitShown}

abbrev pub shown_of : UnitShown → model.UnitShown
shown_of s = record { id = s.id.now; loaded = s.loaded.now; active = s.active.now; sub = s.sub.now; result = s.result.now; number = s.number }

abbrev pub row_view : Row → model.Row
row_view r = record {
  unit = string_bytes r.unit;
  loaded = string_bytes r.loaded;
  state = string_bytes r.state;
  result = string_bytes r.result;
  pid = string_bytes r.pid;
  job = string_bytes r.job;
  details = string_bytes r.details;
}

abbrev pub widths_view : Widths → model.Widths
widths_view w = record { unit = w.unit; loaded = w.loaded; state = w.state; result = w.result; pid = w.pid }
