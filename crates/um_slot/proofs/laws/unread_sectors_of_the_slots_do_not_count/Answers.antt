use Rattle.um_laws.proofs.StoreLaws.{unread_newest, unread_none}
use Rattle.um_slot.proofs.laws.unread_sectors_of_the_slots_do_not_count.Goals as goal

pub returns-clause-one : goal.returns-clause-one
returns-clause-one c = λ layout a b slot generation body same newest. unread_newest layout a b same newest

pub returns-clause-none : goal.returns-clause-none
returns-clause-none c = λ layout a b same none. unread_none layout a b same none
