-- The calls that a fuse fails, beside the failures of its disk.
-- No manual page has it: it is the project's own test device.
-- Fuse stands on this file.
use Rattle.std.specs.Prelude.{◌+◌, ◌-◌, ◌^◌, min, ℕ, Result}
use Rattle.um_model.specs.Disk.{Sector, Past, Wrote}
use Rattle.um_sector.specs.Runs.{CountsFailure}
use Rattle.um_sector.specs.declared.fault.Fault.{Fault}

-- the failures of the disk below with those of the fuse itself, in a count that stays at its last value
abbrev pub failures_with : ℕ → ℕ → ℕ
failures_with below own = min (below + own) (2 ^ 64 - 1)

-- The write of the value to sector `k` was passed to the disk below, whatever that answered.
pub record IsAsked (honest : Type 0) (below above : ℕ) (old : Past) (k : ℕ) (value : Sector) (new : Past) : Type 0 where
  pub answer : Result (Unit {0}) Fault
  pub counts : CountsFailure answer below above
  pub wrote : honest → Wrote answer old k value new
