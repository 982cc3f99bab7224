use Rattle.std.proofs.Common.{subst, sym}
use Rattle.um_state.specs.View.{state_of}
use Rattle.um_state.specs.Working.{CountsDiffering}
use Rattle.um_engine.proofs.between.rows_to.Goals as goal

pub delta_to-requires-clause-same : goal.delta_to-requires-clause-same
delta_to-requires-clause-same c = c.requires.same

pub delta_to-requires-clause-was : goal.delta_to-requires-clause-was
delta_to-requires-clause-was c = c.in-Some.ensures.rows

pub returns : goal.returns
returns c = subst (CountsDiffering (state_of c.args.base.now) (state_of c.args.after.now)) (sym c.len.ensures) c.in_ok-delta.ensures.count
