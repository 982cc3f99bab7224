use Rattle.um_model.proofs.SpecifiersLaws.{one_expansion}
use Rattle.um_spec.proofs.laws.a_text_has_one_expansion.Goals as goal

pub returns : goal.returns
returns c = one_expansion
