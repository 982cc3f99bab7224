use Rattle.um_laws.proofs.WholeLaws.{accepted_room}
use Rattle.um_engine.proofs.laws.an_input_that_is_not_refused_is_short.Goals as goal

pub returns : goal.returns
returns c = accepted_room
