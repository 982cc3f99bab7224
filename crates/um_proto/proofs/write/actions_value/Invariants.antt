use Rattle.std.proofs.Common.{◌≡◌, map, take}
use Rattle.serde_json.specs.View.{view}
use Rattle.um_model.specs.Replies.{action_data}
use Rattle.um_state.specs.View.{action_of}
use Rattle.um_proto.proofs.write.actions_value.Given as goal

abbrev pub invariant-loop-action : goal.invariant-loop-action
invariant-loop-action l = map view l.list.items ≡ map action_data (map action_of (take l.action-index l.actions))
