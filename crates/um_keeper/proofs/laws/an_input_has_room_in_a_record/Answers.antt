use Rattle.std.proofs.Common.{arith}
use Rattle.um_keeper.proofs.laws.an_input_has_room_in_a_record.Goals as goal

pub returns : goal.returns
returns c = λ layout generation. omega arith
