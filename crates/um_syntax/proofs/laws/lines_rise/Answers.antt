use Rattle.um_model.proofs.SyntaxLaws.{lines_rise}
use Rattle.um_syntax.proofs.laws.lines_rise.Goals as goal

pub returns : goal.returns
returns c = lines_rise
