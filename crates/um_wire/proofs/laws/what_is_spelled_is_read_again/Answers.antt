use Rattle.um_wire.proofs.laws.what_is_spelled_is_read_again.Goals as goal

pub returns : goal.returns
returns g c = g.met.T.Canon.canonical.again
