use Rattle.std.proofs.Common.{◌≡◌, ◌↔◌, ℕ, true, slice_get, ◌||◌, refl, subst}
use Rattle.um_serve.specs.Rounds.{IsHeldBack}
use Rattle.um_serve.proofs.HeldLaws.{held_told}
use Rattle.um_serve.proofs.listening.is_held_back.Goals as goal

pub returns : goal.returns
returns g c =
    let sessions = c.args.manager.now.sessions.items in
    let holds = c.holds_frame-holds_frame.result in
    let behind = c.is_behind-is_behind.result in
    subst (λ (i : ℕ). ((holds || behind) ≡ true) ↔ IsHeldBack (slice_get sessions i) (slice_get c.args.backlog.now c.args.number)) c.connection.ensures
    (held_told (slice_get sessions c.connection.result) (slice_get c.args.backlog.now c.args.number) holds behind (holds || behind) c.holds_frame-holds_frame.ensures c.is_behind-is_behind.ensures refl)
