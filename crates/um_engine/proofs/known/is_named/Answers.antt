use Rattle.um_engine.proofs.known.is_named.Goals as goal

pub returns-in-Some : goal.returns-in-Some
returns-in-Some c = λ told. c.is_among.ensures c.if-not-is_among.false

pub returns-in-None : goal.returns-in-None
returns-in-None c = λ told. c.is_among.ensures c.if-not-is_among.false
