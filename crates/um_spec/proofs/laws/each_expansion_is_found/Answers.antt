use Rattle.um_model.proofs.SpecifiersLaws.{finds_expanded}
use Rattle.um_spec.proofs.laws.each_expansion_is_found.Goals as goal

pub returns : goal.returns
returns c = finds_expanded
