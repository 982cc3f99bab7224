use Rattle.um_output.proofs.PlainLaws.{is_text, misleads_nobody, same_text}
use Rattle.um_output.proofs.laws.what_is_printed_misleads_nobody.Goals as goal

pub returns : goal.returns
returns c = record { text = is_text; plain = misleads_nobody; same = same_text }
