use Rattle.um_unit.proofs.UpperLemmas.{same_settings}
use Rattle.um_unit.proofs.settings.service_settings_with.Goals as goal

pub returns : goal.returns
returns c =
    let times = c.in_ok-times.ensures in
    let exits = c.in_ok-exits.ensures in
    same_settings c.in_ok-stop.ensures c.in_ok-environment.ensures c.in_ok-remains.ensures c.in_ok-restart.ensures times.delay times.start times.stop times.interval c.in_ok-limit_burst.ensures
    exits.success exits.prevents exits.forces
