use Rattle.um_model.proofs.SyntaxLaws.{sections_fit}
use Rattle.um_syntax.proofs.laws.sections_fit.Goals as goal

pub returns : goal.returns
returns c = sections_fit
