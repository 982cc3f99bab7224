-- The settings of a unit in the service table: its commands by their places, its environment, and its defaults.
-- Follows systemd.service(5) and, for the start limit, systemd.unit(5).
-- Units, clean ends, the service table and the machine depend on this file.
use Rattle.std.specs.Prelude.{ℕ, ◌^◌, ◌&&◌, Bool, false, List, [], ◌∷◌, ◌++◌, length, map, nat_lt, slice_get}
use Rattle.std.specs.Option.{option_map_or}
use Rattle.um_model.specs.Commands.{Command}
use Rattle.um_model.specs.Units.{service_settings_with}
pub use Rattle.um_model.specs.Units.{ServiceSettings}
use Rattle.um_model.specs.declared.transition.CommandList.{CommandList}
use Rattle.um_model.specs.declared.transition.CommandList.TheVariants.{OfStartPre, OfStart, OfStop}
use Rattle.um_model.specs.declared.transition.UnitKind.{UnitKind}

-- the settings of a unit of this kind without any setting
abbrev pub default_settings : UnitKind → ServiceSettings
default_settings kind = service_settings_with [] [] kind [] []

-- one of its lists of commands
abbrev pub commands_in : ServiceSettings → CommandList → List Command
commands_in s OfStartPre = s.start_pre
commands_in s OfStart = s.start
commands_in s OfStop = s.stop

-- the list has a command at this place, which is a number of 32 bits: its commands past the place 2^32 - 1 count as not there
abbrev pub has_place : List Command → ℕ → Bool
has_place commands i = nat_lt i (length commands) && nat_lt i (2 ^ 32)

-- the command at this place is written with `-`
abbrev pub has_dash : ServiceSettings → CommandList → ℕ → Bool
has_dash s which i = option_map_or (λ c. c.ignores_failure) (slice_get (commands_in s which) i) false

-- the environment as a process is given it: `NAME=value`
abbrev pub environment_texts : ServiceSettings → List (List ℕ)
environment_texts s = map (λ v. v.name ++ (61 ∷ v.value)) s.environment
