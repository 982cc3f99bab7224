use Rattle.std.proofs.Common.{subst}
use Rattle.um_falling.specs.Work.{Goes, Keeps, WorkView}
use Rattle.um_model.specs.Machine as model
use Rattle.um_state.specs.View.{state_of}
use Rattle.um_engine.proofs.happenings.fired.Goals as goal

pub returns-clause-follows : goal.returns-clause-follows
returns-clause-follows c =
    subst (λ (w : WorkView). Goes (model.Follows w.moment (state_of w.now) model.Tick) w c.fire.new.work) c.in_ok-work.ensures.begins c.in_ok-fire.ensures.follows

pub returns-clause-keeps : goal.returns-clause-keeps
returns-clause-keeps c = subst (λ (w : WorkView). Keeps w c.fire.new.work) c.in_ok-work.ensures.begins c.in_ok-fire.ensures.keeps
