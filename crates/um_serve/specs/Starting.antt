-- Whether anything ran yet since the boot, by the state.
-- No manual page has this: it is the project's own (docs/FORMATS.md, "The program").
-- The program stands on this file.
use Rattle.std.specs.Prelude.{◌≡◌}
use Rattle.std.specs.FinMap as map
use Rattle.um_model.specs.Machine.{State}

-- no unit has an entry in the state, and no job is pending
abbrev pub HasRunNothing : State → Type 0
HasRunNothing s = (s.units ≡ map.empty) × (s.pending ≡ map.empty)
