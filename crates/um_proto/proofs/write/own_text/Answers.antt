use Rattle.std.proofs.Common.{sym, ap, ◌∙◌}
use Rattle.serde_json.specs.View.{view}
use Rattle.serde_json.specs.Written.{compact_text}
use Rattle.um_model.specs.Machine.{Shown}
use Rattle.um_model.specs.Replies.{reply_data}
use Rattle.um_proto.proofs.Warnings.{own_written, nothing_left_out}
use Rattle.um_proto.specs.Written.{unwarned}
use Rattle.um_state.specs.View.{shown_of, reply_of}
use Rattle.um_proto.proofs.write.own_text.Goals as goal

pub with_warnings-requires : goal.with_warnings-requires
with_warnings-requires c =
    let written = own_written (unwarned (reply_of c.args.reply.now)) (view c.in_ok-reply_value.field-0) c.in_ok-text.text.items c.in_ok-reply_value.ensures c.in_ok-text.ensures.text in
    written ∙ ap (λ r. compact_text (reply_data (unwarned (reply_of r)))) c.in-Shown.is
    ∙ ap (λ u. compact_text (reply_data (unwarned (Shown (shown_of u))))) (sym c.deref.ensures)

pub returns-in_default : goal.returns-in_default
returns-in_default c =
    let written = own_written (unwarned (reply_of c.args.reply.now)) (view c.in_ok-reply_value.field-0) c.in_ok-text.text.items c.in_ok-reply_value.ensures c.in_ok-text.ensures.text in
    written ∙ ap (λ r. compact_text (reply_data r)) (nothing_left_out c.args.reply.now c.in_default.not-Shown)
