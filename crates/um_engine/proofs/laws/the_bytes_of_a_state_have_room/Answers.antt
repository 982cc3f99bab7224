use Rattle.um_laws.proofs.WholeLaws.{spelled_room}
use Rattle.um_engine.proofs.laws.the_bytes_of_a_state_have_room.Goals as goal

pub returns : goal.returns
returns c = spelled_room
