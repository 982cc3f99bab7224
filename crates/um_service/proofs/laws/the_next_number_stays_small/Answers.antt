use Rattle.um_laws.proofs.TransitionLaws.{next_is_small}
use Rattle.um_service.proofs.laws.the_next_number_stays_small.Goals as goal

pub returns : goal.returns
returns c = next_is_small
