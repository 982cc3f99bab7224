use Rattle.std.proofs.Common.{refl}
use Rattle.um_model.proofs.SubstitutionLaws.{has_words}
use Rattle.um_words.proofs.laws.each_value_has_words.Goals as goal
use Rattle.um_model.specs.FileForms.{word_values}

pub returns : goal.returns
returns c = λ value. let some = has_words value in (word_values some.0, (some.0, some.1, refl))
