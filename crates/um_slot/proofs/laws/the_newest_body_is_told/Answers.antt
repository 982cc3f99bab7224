use Rattle.um_laws.proofs.ImageLaws.{newest_some, newest_none}
use Rattle.um_slot.proofs.laws.the_newest_body_is_told.Goals as goal

pub returns-clause-one : goal.returns-clause-one
returns-clause-one c = λ layout image n. newest_some layout image n

pub returns-clause-none : goal.returns-clause-none
returns-clause-none c = λ layout image. newest_none layout image
