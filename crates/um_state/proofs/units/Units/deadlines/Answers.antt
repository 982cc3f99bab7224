use Rattle.std.proofs.Common.{subst}
use Rattle.um_model.specs.Machine.{AreDeadlines}
use Rattle.um_state.specs.Tables.{units_by}
use Rattle.um_state.proofs.Results.{if_ok_more}
use Rattle.um_state.proofs.units.Units.deadlines.Goals as goal

pub returns : goal.returns
returns c =
    if_ok_more c.deadlines_of.result
    (λ timers are. subst (λ t. AreDeadlines t.held timers) c.self.view_is (subst (λ rows. AreDeadlines (units_by c.self.inside.names rows) timers) c.deref.ensures.value are)) c.deadlines_of.ensures
