use Rattle.um_laws.proofs.FewLaws.{few_after}
use Rattle.um_engine.proofs.laws.no_more_units_are_known_than_may_be.Goals as goal

pub returns : goal.returns
returns c = few_after
