use Rattle.um_model.proofs.BytesLaws.{one_reading}
use Rattle.um_wire.proofs.laws.no_spelling_begins_another.Goals as goal

pub returns : goal.returns
returns g c = one_reading g.met.T.Canon.canonical
