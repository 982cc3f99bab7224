use Rattle.std.proofs.Common.{◌∙◌, ap}
use Rattle.um_state.specs.Deltas.{delta_after}
use Rattle.um_state.specs.View.{state_of}
use Rattle.um_engine.proofs.engine.after_delta.Goals as goal

pub returns-clause-state : goal.returns-clause-state
returns-clause-state c = c.in_ok-exact.ensures.state ∙ ap state_of (c.swap.ensures.state ∙ ap (delta_after c.args.delta) c.in_ok-after.ensures)
