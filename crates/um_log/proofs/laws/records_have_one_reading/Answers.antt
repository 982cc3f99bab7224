use Rattle.um_model.specs.Store.{area_start}
use Rattle.um_laws.proofs.LogLaws.{same_list}
use Rattle.um_log.proofs.laws.records_have_one_reading.Goals as goal

pub returns : goal.returns
returns c = λ format layout generation image a b. same_list 0 (area_start format layout generation) a b
