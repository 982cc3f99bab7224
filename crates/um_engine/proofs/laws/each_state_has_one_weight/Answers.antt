use Rattle.um_laws.proofs.CrowdedLaws.{a_weight, one_weight, heavy_by_weight}
use Rattle.um_engine.proofs.laws.each_state_has_one_weight.Goals as goal

pub returns-clause-some : goal.returns-clause-some
returns-clause-some c = a_weight

pub returns-clause-one : goal.returns-clause-one
returns-clause-one c = one_weight

pub returns-clause-heavy : goal.returns-clause-heavy
returns-clause-heavy c = heavy_by_weight
