use Rattle.um_wire.proofs.FrontText.{is_text, no_text}
use Rattle.um_wire.proofs.texts.front_text.Goals as goal

pub returns-in-Ok-clause-text : goal.returns-in-Ok-clause-text
returns-in-Ok-clause-text c = is_text c.args.bytes.now c.args.len c.in-Ok.text.now _ c.if-bytes-len.false c.split_at.ensures.front c.in-Ok.ensures.cases.0 c.in-Ok.ensures.cases.1

pub returns-in-Err-clause-text : goal.returns-in-Err-clause-text
returns-in-Err-clause-text c = no_text c.args.bytes.now c.args.len _ c.if-bytes-len.false c.split_at.ensures.front c.in-Err.ensures.cases.0
