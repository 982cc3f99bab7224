use Rattle.std.proofs.Common.{◌≡◌, flat_map, take}
use Rattle.um_model.specs.Transitions.{live_numbers}
use Rattle.um_state.proofs.unit_bytes.processes_of.Given as goal

-- the numbers of the rows so far
abbrev pub invariant-loop-unit : goal.invariant-loop-unit
invariant-loop-unit l = l.numbers.items ≡ flat_map live_numbers (take l.unit-index l.rows)
