use Rattle.um_model.specs.Syntax.{reading_of}
use Rattle.um_model.proofs.SyntaxLaws.{reading_given}
use Rattle.um_syntax.proofs.laws.each_text_has_a_reading.Goals as goal

pub returns : goal.returns
returns c = λ text. (reading_of text, reading_given text)
