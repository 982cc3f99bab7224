use Rattle.um_model.proofs.BytesLaws.{none_spelled}
use Rattle.um_wire.proofs.laws.no_reading_only_where_none_is.Goals as goal

pub returns : goal.returns
returns g c = none_spelled g.met.T.Canon.canonical
