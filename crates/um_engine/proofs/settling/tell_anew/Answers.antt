use Rattle.um_state.specs.View.{state_of}
use Rattle.um_engine.proofs.ReadyLaws.{told_anew}
use Rattle.um_engine.proofs.settling.tell_anew.Goals as goal

pub returns-then-spreads : goal.returns-then-spreads
returns-then-spreads c = λ before name number tells keeps. c.tell_all.ensures before tells

pub returns-else-spreads : goal.returns-else-spreads
returns-else-spreads c = λ before name number tells keeps.
    told_anew c.args.work.now.graph before (state_of c.args.work.now.now) c.args.jobs.now c.tell.new.jobs c.args.unit name tells number
    (keeps c.if-spreads.false) (c.tell.ensures name number)
