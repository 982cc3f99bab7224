use Rattle.std.proofs.Common.{◌∙◌, ap}
use Rattle.um_model.specs.Jobs.{jobs_shown}
use Rattle.um_state.specs.Tables.{jobs_by}
use Rattle.um_state.proofs.Results.{if_ok_more}
use Rattle.um_state.proofs.units.Pending.shown.Goals as goal

pub returns : goal.returns
returns c =
    if_ok_more c.shown_of.result
    (λ shown are. are ∙ (ap (λ rows. jobs_shown (jobs_by c.self.inside.names rows)) c.deref.ensures.value ∙ ap (λ t. jobs_shown t.held) c.self.view_is)) c.shown_of.ensures
