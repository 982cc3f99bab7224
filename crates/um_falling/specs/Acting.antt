-- How a unit acts, as the code holds it: by which settings, and whether it can be started.
-- Follows the definition of how a unit acts by the loaded tree.
-- The events of a unit stand on this file.
use Rattle.std.specs.Prelude.{Bool, Option, is_some}
use Rattle.std.specs.Option.{option_map_or}
use Rattle.um_model.specs.Settings.{ServiceSettings, default_settings}
use Rattle.um_model.specs.Units.{LoadedUnit}
use Rattle.um_model.specs.declared.transition.UnitKind.TheVariants.{Simple}
use Rattle.um_unit.specs.ServiceView.{service_settings_of}
use Rattle.um_falling.specs.declared.acting.Acting.{Acting}

-- the facts about a unit that the service table uses
pub record Acts : Type 0 where
  pub settings : ServiceSettings
  pub loadable : Bool

-- how a unit acts, from its loaded settings: one that can't be loaded acts as a simple service with default settings
abbrev pub acts_as : Option LoadedUnit → Acts
acts_as found = record { settings = option_map_or (λ l. l.settings.service) found (default_settings Simple); loadable = is_some found }

-- the same as the code holds it
abbrev pub acting_of : Acting → Acts
acting_of a = record { settings = service_settings_of a.settings.now.value; loadable = a.loadable }
