use Rattle.std.proofs.Common.{rules, arith}
use Rattle.std.proofs.lemmas.Str.{is_utf8-from_IsUtf8}
use Rattle.um_wire.proofs.texts.put_text.Goals as goal

pub returns-clause-fits : goal.returns-clause-fits
returns-clause-fits c = (search (rules, arith), is_utf8-from_IsUtf8 c.args.text.now c.utf8.text)
