use Rattle.um_model.specs.Store.{area_start}
use Rattle.um_laws.proofs.LogLaws.{unread_records}
use Rattle.um_log.proofs.laws.unread_sectors_of_the_log_do_not_count.Goals as goal

pub returns : goal.returns
returns c = λ format layout generation a b records. unread_records format layout generation a b 0 (area_start format layout generation) records
