use Rattle.std.proofs.Common.{sym, ◌∙◌}
use Rattle.um_model.proofs.SyntaxLaws.{reading_is}
use Rattle.um_syntax.proofs.laws.one_reading.Goals as goal

pub returns : goal.returns
returns c = λ text a b first second. reading_is text a first ∙ sym (reading_is text b second)
