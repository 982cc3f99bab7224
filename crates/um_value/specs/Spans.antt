-- A time span of the code as the microseconds of the definitions.
use Rattle.std.specs.Prelude.{ℕ, Option, Some, None}
use Rattle.um_model.specs.declared.settings.TimeSpan.{TimeSpan}
use Rattle.um_model.specs.declared.settings.TimeSpan.TheVariants.{Micros, Infinite}

-- microseconds, or none if the span never ends
abbrev pub micros_in : TimeSpan → Option ℕ
micros_in Infinite = None
micros_in (Micros n) = Some n
