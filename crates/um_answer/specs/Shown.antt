-- A unit that was loaded, as `show` reports it.
use Rattle.um_model.specs.Machine.{UnitShown}
use Rattle.um_model.specs.Units.{LoadedUnit}
use Rattle.um_model.specs.declared.service.UnitState.{UnitState}
use Rattle.um_model.specs.declared.units.LoadState.TheVariants.{Loaded}

abbrev pub shown_of_loaded : LoadedUnit → UnitState → UnitShown
shown_of_loaded l state = record { id = l.name; load = Loaded; description = l.settings.description; warnings = l.warnings; state = state }
