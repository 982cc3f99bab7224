use Rattle.std.proofs.Common.{◌∙◌, ap, string_bytes}
use Rattle.serde_json.specs.Data.{string}
use Rattle.um_proto.proofs.Lists.{value_more}
use Rattle.um_proto.proofs.write.texts_value.Goals as goal

pub loop-text-preserved : goal.loop-text-preserved
loop-text-preserved c =
    value_more string string_bytes c.args.texts.now c.loop-text.text-index c.text-item.result c.loop-text.list.items c.push.new.self.items c.in_ok-try_from_str.field-0 c.loop-text-test.true c.text-item.is c.loop-text.invariant (c.in_ok-try_from_str.ensures ∙ ap string c.as_str.ensures.value) c.in_ok-push.ensures.items
