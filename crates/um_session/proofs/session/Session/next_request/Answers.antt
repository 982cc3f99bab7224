use Rattle.std.proofs.Common.{◌≡◌, ◌⊎◌, ◌+◌, inl, inr, List, [], ℕ, take, drop, Some, None, Err, refl, sym, subst, ◌∙◌}
use Rattle.um_model.specs.Frames.{BeginsWith, IsPartial, BeginsTooLong}
use Rattle.um_model.specs.Refusals.{too_large}
use Rattle.um_model.specs.Requests.{request_of}
use Rattle.um_model.specs.Sessions.{waits, takes, refuses}
use Rattle.um_model.specs.declared.refusals.Limit.TheVariants.{Frame}
use Rattle.um_model.specs.declared.requests.Mode.TheVariants.{Service}
use Rattle.um_session.proofs.session.Session.next_request.Goals as goal

pub returns-then-failed : goal.returns-then-failed
returns-then-failed c = (None, waits (inl (sym c.failed.ensures ∙ c.if-failed.true)) refl, tt)

pub returns-in-Partial : goal.returns-in-Partial
returns-in-Partial c = (None, waits (inr (subst (λ (l : List ℕ). (l ≡ []) ⊎ IsPartial l) c.rest.ensures c.in-Partial.ensures)) refl, tt)

pub returns-in-TooLong : goal.returns-in-TooLong
returns-in-TooLong c =
    (Some (Err (too_large Frame)), refuses (sym c.failed.ensures ∙ c.if-failed.false) (subst BeginsTooLong c.rest.ensures c.in-TooLong.ensures) c.fail.ensures, λ _. refl)

pub returns-in-Frame : goal.returns-in-Frame
returns-in-Frame c =
    let rest = c.args.self.now.rest in
    let begins = subst (λ (l : List ℕ). BeginsWith l (take c.in-Frame.size (drop 4 l)) (drop (c.in-Frame.size + 4) l)) c.rest.ensures c.in-Frame.ensures.1 in
    (Some (request_of Service (take c.in-Frame.size (drop 4 rest))), takes (sym c.failed.ensures ∙ c.if-failed.false) begins c.pass.ensures, c.request-request.ensures)
