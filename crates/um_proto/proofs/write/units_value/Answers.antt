use Rattle.um_proto.specs.Written.{unit_data}
use Rattle.um_state.specs.View.{listed_of}
use Rattle.um_proto.proofs.Lists.{value_more}
use Rattle.um_proto.proofs.write.units_value.Goals as goal

pub loop-unit-preserved : goal.loop-unit-preserved
loop-unit-preserved c =
    value_more unit_data listed_of c.args.units.now c.loop-unit.unit-index c.unit-item.result c.loop-unit.list.items c.push.new.self.items c.in_ok-unit_value.field-0 c.loop-unit-test.true c.unit-item.is c.loop-unit.invariant c.in_ok-unit_value.ensures c.in_ok-push.ensures.items
