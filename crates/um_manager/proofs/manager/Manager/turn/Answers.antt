use Rattle.std.proofs.Common.{◌∙◌, ap, sym, length}
use Rattle.um_manager.proofs.Continuing.{put_back, turn_history}
use Rattle.um_manager.proofs.manager.Manager.turn.Goals as goal

pub returns-clause-history : goal.returns-clause-history
returns-clause-history g c = λ disk before past.
    let sessions = c.as_mut_slice.ensures in
    turn_history c.as_slice.ensures.pieces sessions.value
    (put_back _ c.turn.new.sessions c.args.self.now.sessions.items (c.turn.auto.sessions ∙ sessions.len) (ap length (sym sessions.value) ∙ sessions.len))
    c.turn.ensures.turns past
