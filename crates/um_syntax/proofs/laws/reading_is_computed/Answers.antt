use Rattle.std.proofs.Common.{sym, subst}
use Rattle.um_model.proofs.SyntaxLaws.{reading_given, reading_is}
use Rattle.um_model.specs.SyntaxSpellings.{IsReading}
use Rattle.um_syntax.proofs.laws.reading_is_computed.Goals as goal

pub returns : goal.returns
returns c = λ text reading. (reading_is text reading, λ is. subst (IsReading text) (sym is) (reading_given text))
