use Rattle.um_serve.proofs.GotLaws.{nothing_served}
use Rattle.um_serve.proofs.laws.nothing_is_served_behind_a_lost_read.Goals as goal

pub returns : goal.returns
returns c = nothing_served
