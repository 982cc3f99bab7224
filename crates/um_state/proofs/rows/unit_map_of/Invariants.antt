use Rattle.std.proofs.Common.{◌≡◌, ◌≤◌, length, drop}
use Rattle.um_laws.proofs.NameMaps.{seen}
use Rattle.um_state.specs.Tables.{units_by}
use Rattle.um_state.proofs.rows.unit_map_of.Given as goal

-- the entries put so far are the rows that were passed
abbrev pub invariant-loop-i : goal.invariant-loop-i
invariant-loop-i l = record {
  within : l.i ≤ length l.names;
  put : seen l.entries ≡ units_by (drop l.i l.names) (drop l.i l.rows);
}

abbrev pub decreases-loop-i : goal.decreases-loop-i
decreases-loop-i l = l.i
