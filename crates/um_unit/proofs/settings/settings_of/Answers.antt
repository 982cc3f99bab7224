use Rattle.std.proofs.Common.{ap, ◌∙◌}
use Rattle.um_unit.specs.ServiceView.{service_settings_of}
use Rattle.um_unit.proofs.UpperLemmas.{same_parts}
use Rattle.um_unit.proofs.settings.settings_of.Goals as goal

pub returns : goal.returns
returns c =
    let served = ap service_settings_of c.in_ok-service.ensures.ok ∙ c.in_ok-service_settings_of.ensures in same_parts c.in_ok-description.ensures c.in_ok-dependencies.ensures served c.in_ok-install.ensures
