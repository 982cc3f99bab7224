use Rattle.std.proofs.Common.{◌∙◌, Option, ap}
use Rattle.std.specs.Option.{option_map_or}
use Rattle.um_model.specs.Settings.{default_settings}
use Rattle.um_model.specs.Units.{LoadedUnit}
use Rattle.um_model.specs.declared.transition.UnitKind.{UnitKind}
use Rattle.um_model.specs.declared.transition.UnitKind.TheVariants.{Simple}
use Rattle.um_unit.specs.declared.service_settings.ServiceSettings.{ServiceSettings}
use Rattle.um_falling.proofs.acting.kind_in.Goals as goal

abbrev kind_of : Option LoadedUnit → UnitKind
kind_of found = (option_map_or (λ l. l.settings.service) found (default_settings Simple)).kind

pub returns-in-Some : goal.returns-in-Some
returns-in-Some c = λ s name serves known. ap (λ (x : ServiceSettings). x.kind) c.deref.ensures ∙ ap kind_of (c.in-Some.ensures s name serves known)

pub returns-in-None : goal.returns-in-None
returns-in-None c = λ s name serves known. ap kind_of (c.in-None.ensures s name serves known)
