use Rattle.um_laws.proofs.TransitionLaws.{numbers_are_next}
use Rattle.um_service.proofs.laws.new_numbers_are_the_next.Goals as goal

pub returns : goal.returns
returns c = numbers_are_next
