use Rattle.std.proofs.Common.{ap, unwrap_or}
use Rattle.um_laws.proofs.NameMaps.{get_seen}
use Rattle.um_model.specs.Service.{dead_unit}
use Rattle.um_state.proofs.maps.state_in.Goals as goal

pub returns-in-Some : goal.returns-in-Some
returns-in-Some c = rw (get_seen c.args.entries.now c.args.unit.now) (ap (λ o. unwrap_or o dead_unit) c.in-Some.ensures.value)

pub returns-in-None : goal.returns-in-None
returns-in-None c = rw (get_seen c.args.entries.now c.args.unit.now) (ap (λ o. unwrap_or o dead_unit) c.in-None.ensures.value)
