use Rattle.um_model.proofs.BytesLaws.{whole_spelled}
use Rattle.um_wire.proofs.laws.a_whole_is_its_spelling.Goals as goal

pub returns : goal.returns
returns g c = whole_spelled g.met.T.Canon.canonical
