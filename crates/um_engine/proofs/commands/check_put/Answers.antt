use Rattle.std.proofs.Common.{sym}
use Rattle.um_state.specs.View.{state_of}
use Rattle.um_engine.proofs.Causes.{put_refused}
use Rattle.um_engine.proofs.commands.check_put.Goals as goal

pub returns-in-Some-clause-refused : goal.returns-in-Some-clause-refused
returns-in-Some-clause-refused c =
    let cause = sym (rw (c.in-Some.is, c.tree.ensures) at c.put_cause.ensures) in
    λ differs. put_refused (state_of c.args.state.now).tree c.args.path.now c.args.text.now _ _ cause (c.refusal.ensures.told differs)

pub returns-in-None-clause-ok : goal.returns-in-None-clause-ok
returns-in-None-clause-ok c = sym (rw (c.in-None.is, c.tree.ensures) at c.put_cause.ensures)
