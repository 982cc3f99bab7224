use Rattle.std.proofs.Common.{sym, subst}
use Rattle.um_model.proofs.TextLaws.{trim_start_cuts, trim_start_is}
use Rattle.um_model.specs.Text.{IsCutInFront}
use Rattle.um_text.proofs.laws.trimming_in_front.Goals as goal

pub returns : goal.returns
returns c = λ text rest. (trim_start_is text rest, λ is. subst (IsCutInFront text) (sym is) (trim_start_cuts text))
