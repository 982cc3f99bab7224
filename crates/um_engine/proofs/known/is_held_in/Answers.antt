use Rattle.um_engine.proofs.known.is_held_in.Goals as goal

pub returns-in-Some : goal.returns-in-Some
returns-in-Some c = λ yes. (c.holds.ensures c.args.unit.now c.in-Some.ensures).0 yes
