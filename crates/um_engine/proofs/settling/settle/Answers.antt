use Rattle.um_engine.proofs.settling.settle.Goals as goal

pub begin_all-requires-clause-serves : goal.begin_all-requires-clause-serves
begin_all-requires-clause-serves c = c.graph.ensures.serves

pub begin_all-requires-clause-tells : goal.begin_all-requires-clause-tells
begin_all-requires-clause-tells c = c.in_ok-jobs.ensures

pub returns-clause-settles : goal.returns-clause-settles
returns-clause-settles c = c.begin_all.ensures.settles

pub returns-clause-keeps : goal.returns-clause-keeps
returns-clause-keeps c = c.begin_all.ensures.keeps
