-- How a list of rows, a moment and a next number change a standing, and how they are taken back.
-- Follows no manual page: it is how a step is taken without a copy of the state.
-- The steps of the engine and the ways back stand on this file.
use Rattle.um_model.specs.Standing.{Standing}
use Rattle.um_state.specs.Rows.{rows_after, rows_before, timed}
use Rattle.um_state.specs.declared.delta.Delta.{Delta}

-- with the delta: its moment and number first, then its rows
abbrev pub delta_after : Delta → Standing → Standing
delta_after d s = rows_after d.rows.items (timed d.clock d.next s)

-- without it again: its rows from the last one back, then its moment and number
abbrev pub delta_before : Delta → Standing → Standing
delta_before d s = timed d.clock d.next (rows_before d.rows.items s)
