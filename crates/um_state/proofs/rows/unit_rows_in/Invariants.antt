use Rattle.std.proofs.Common.{◌≡◌, ◌<◌, ℕ, get_or, length}
use Rattle.um_laws.proofs.NameMaps.{seen}
use Rattle.um_model.specs.Service.{dead_unit, state_of_unit}
use Rattle.um_name.specs.Names.{name_at}
use Rattle.um_state.proofs.rows.unit_rows_in.Given as goal

-- a row for each name, and those so far are of the names so far
abbrev pub invariant-loop-i : goal.invariant-loop-i
invariant-loop-i l = record {
  len : length l.rows.items ≡ length l.names;
  rows : (k : ℕ) → k < l.i → get_or l.rows.items k dead_unit ≡ state_of_unit (seen l.entries) (name_at l.names k);
}
