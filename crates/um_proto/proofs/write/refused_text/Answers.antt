use Rattle.std.proofs.Common.{◌≡◌}
use Rattle.serde_json.specs.Written.{compact_text}
use Rattle.um_laws.proofs.RepliesLaws.{refused_plain, too_large_short}
use Rattle.um_model.specs.Refusals.{too_large}
use Rattle.um_model.specs.Replies.{refused_data}
use Rattle.um_model.specs.declared.refusals.Limit.TheVariants.{Reply as ReplyLimit}
use Rattle.um_proto.proofs.write.refused_text.Goals as goal

pub returns-clause-text : goal.returns-clause-text
returns-clause-text c = (rw c.in_ok-too_long_value.ensures at c.in_ok-bytes.ensures.text) (refused_plain (too_large ReplyLimit))

pub returns-clause-short : goal.returns-clause-short
returns-clause-short c =
    let told : c.in_ok-bytes.bytes.items ≡ compact_text (refused_data (too_large ReplyLimit)) =
    (rw c.in_ok-too_long_value.ensures at c.in_ok-bytes.ensures.text) (refused_plain (too_large ReplyLimit)) in
    rw told too_large_short
