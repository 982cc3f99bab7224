use Rattle.um_engine.proofs.settling.fire.Goals as goal

pub fire_all-requires : goal.fire_all-requires
fire_all-requires c = c.requires

pub returns-clause-follows : goal.returns-clause-follows
returns-clause-follows c = c.fire_all.ensures.follows

pub returns-clause-keeps : goal.returns-clause-keeps
returns-clause-keeps c = c.fire_all.ensures.keeps
