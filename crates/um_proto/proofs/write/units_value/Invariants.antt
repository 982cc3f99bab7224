use Rattle.std.proofs.Common.{◌≡◌, map, take}
use Rattle.serde_json.specs.View.{view}
use Rattle.um_proto.specs.Written.{unit_data}
use Rattle.um_state.specs.View.{listed_of}
use Rattle.um_proto.proofs.write.units_value.Given as goal

abbrev pub invariant-loop-unit : goal.invariant-loop-unit
invariant-loop-unit l = map view l.list.items ≡ map unit_data (map listed_of (take l.unit-index l.units))
