use Rattle.std.proofs.Common.{subst}
use Rattle.um_model.specs.Substitution.{AreSubstituted}
use Rattle.um_words.proofs.CountLemmas.{are_substituted, substituted_is}
use Rattle.um_words.proofs.laws.a_substitution_is_found.Goals as goal

pub returns : goal.returns
returns c = λ environment words out. (λ e. subst (AreSubstituted environment words) e (are_substituted environment words), substituted_is environment words out)
