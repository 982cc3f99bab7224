use Rattle.um_model.proofs.SubstitutionLaws.{same_substituted}
use Rattle.um_words.proofs.laws.a_substitution_has_one_result.Goals as goal

pub returns : goal.returns
returns c = same_substituted
