use Rattle.um_serve.proofs.GotLaws.{client_served}
use Rattle.um_serve.proofs.laws.each_client_is_served.Goals as goal

pub returns : goal.returns
returns c = client_served
