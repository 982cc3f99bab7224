use Rattle.std.proofs.Common.{sym, subst}
use Rattle.um_model.proofs.TextLaws.{trim_end_cuts, trim_end_is}
use Rattle.um_model.specs.Text.{IsCutAtEnd}
use Rattle.um_text.proofs.laws.trimming_at_the_end.Goals as goal

pub returns : goal.returns
returns c = λ text rest. (trim_end_is text rest, λ is. subst (IsCutAtEnd text) (sym is) (trim_end_cuts text))
