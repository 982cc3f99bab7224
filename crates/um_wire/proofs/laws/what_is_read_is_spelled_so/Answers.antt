use Rattle.um_wire.proofs.laws.what_is_read_is_spelled_so.Goals as goal

pub returns : goal.returns
returns g c = g.met.T.Canon.canonical.takes
