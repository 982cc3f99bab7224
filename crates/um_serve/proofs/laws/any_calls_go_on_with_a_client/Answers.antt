use Rattle.um_serve.proofs.GotLaws.{followed}
use Rattle.um_serve.proofs.laws.any_calls_go_on_with_a_client.Goals as goal

pub returns : goal.returns
returns c = λ trust place rs result k x y follows. followed follows trust place rs result y
