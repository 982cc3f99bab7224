use Rattle.um_unit.proofs.keys.kind_in.Goals as goal

pub returns-then-eq : goal.returns-then-eq
returns-then-eq c = rw (← c.if-eq.ensures) c.kind_among.ensures

pub returns : goal.returns
returns c = rw (← c.if-eq.ensures, ← c.if-eq-2.ensures) c.kind_among-2.ensures
