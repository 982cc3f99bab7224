use Rattle.um_model.proofs.UnitLaws.{same_tidy}
use Rattle.um_model.specs.Service.{dead_unit}
use Rattle.um_state.proofs.laws.units_are_told_apart_by_look_ups.Goals as goal

pub returns : goal.returns
returns c a b tidy also same = same_tidy dead_unit a b tidy also same
