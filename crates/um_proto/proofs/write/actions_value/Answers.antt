use Rattle.um_model.specs.Replies.{action_data}
use Rattle.um_state.specs.View.{action_of}
use Rattle.um_proto.proofs.Lists.{value_more}
use Rattle.um_proto.proofs.write.actions_value.Goals as goal

pub loop-action-preserved : goal.loop-action-preserved
loop-action-preserved c =
    value_more action_data action_of c.args.actions.now c.loop-action.action-index c.action-item.result c.loop-action.list.items c.push.new.self.items c.in_ok-action_value.field-0 c.loop-action-test.true c.action-item.is c.loop-action.invariant c.in_ok-action_value.ensures c.in_ok-push.ensures.items
