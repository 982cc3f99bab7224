-- The contents of a state with names after rows are put into it under their numbers.
-- Follows no manual page: numbers of names are this project's own.
-- The calls of State by number stand on this file.
use Rattle.std.specs.Prelude.{◌≡◌, ℕ, Bool, List, [], ◌∷◌, if◌then◌else◌}
use Rattle.um_model.specs.Standing.{Standing}
use Rattle.um_state.specs.Tables.{unit_put, jobs_put}
use Rattle.um_state.specs.declared.row.Row.{Row}

-- with this row under its number; past the last name nothing is put
abbrev pub put_row : Row → Standing → Standing
put_row r s = record s {
  state = record s.state {
    units = unit_put s.names s.state.units r.number r.unit;
    pending = jobs_put s.names s.state.pending r.number r.jobs;
  };
}

-- the names that both tables have, where they have the same ones
abbrev pub common_names : Bool → List (List ℕ) → List (List ℕ)
common_names is_common names = if is_common then names else []

-- units and pending jobs have the numbers that they had
pub record HasSameNumbers (s t : Standing) : Type 0 where
  pub common : t.common ≡ s.common
  pub names : t.names ≡ s.names

-- at this moment and with this next number
abbrev pub timed : ℕ → ℕ → Standing → Standing
timed clock next s = record s { state = record s.state { clock = clock; next = next } }

-- with these rows, one after another
abbrev pub rows_after : List Row → Standing → Standing
rows_after [] s = s
rows_after (r ∷ rows) s = rows_after rows (put_row r s)

-- the same from the last one back
abbrev pub rows_before : List Row → Standing → Standing
rows_before [] s = s
rows_before (r ∷ rows) s = put_row r (rows_before rows s)
