use Rattle.std.proofs.Common.{◌≡◌, ◌∙◌, ◌≤◌, ℕ, List, Some, length, sym, ap, subst, arith}
use Rattle.um_engine.specs.Engine.{state_in}
use Rattle.um_log.specs.declared.write.Log.{Log}
use Rattle.um_model.specs.Bytes.{nothing_left}
use Rattle.um_model.specs.Machine.{State}
use Rattle.um_model.specs.Servable.{IsServable}
use Rattle.um_model.specs.Store.{body_limit}
use Rattle.um_model.specs.StateSpellings.{FitState, state_spelling, state_at}
use Rattle.um_laws.proofs.StandsLaws.{state_back}
use Rattle.um_keeper.proofs.Judged.{may_hold}
use Rattle.um_keeper.proofs.Kept.{spelled_fits}
use Rattle.um_keeper.proofs.Underway.{still_begun}
use Rattle.um_keeper.proofs.recording.renew.Goals as goal

pub returns-then-ahead-clause-during : goal.returns-then-ahead-clause-during
returns-then-ahead-clause-during g c h s taken under = still_begun under

pub returns-in_err-next-clause-during : goal.returns-in_err-next-clause-during
returns-in_err-next-clause-during g c h s taken under = still_begun under

pub returns-in_err-conclude-clause-during : goal.returns-in_err-conclude-clause-during
returns-in_err-conclude-clause-during g c h s taken under = c.conclude.ensures.during h s taken _ under

pub returns-clause-during : goal.returns-clause-during
returns-clause-during g c h s taken under = c.conclude.ensures.during h s taken _ under

-- the state that its bytes spell
spelled : {bytes : List ℕ} {s t : State} → bytes ≡ state_spelling s → s ≡ t → FitState s → nothing_left (state_at bytes) ≡ Some t
spelled {bytes} {s} {t} is same fits = ap (λ l. nothing_left (state_at l)) is ∙ state_back s fits ∙ ap (λ (x : State). Some x) same

pub begin-requires-2-clause-fits : goal.begin-requires-2-clause-fits
begin-requires-2-clause-fits g c =
    let most = spelled_fits c.requires.held in
    subst (λ (l : Log). length c.in_ok-next.next.body.items ≤ body_limit l.layout) (sym c.conclude.ensures.log)
    (omega (arith, ap length (c.in_ok-next.ensures.body ∙ ap state_spelling c.state.ensures), most))

pub returns-clause-ok : goal.returns-clause-ok
returns-clause-ok g c h s taken under =
    c.begin-2.ensures.under (g.D.Disk.past c.conclude.new.disk) (g.met.D.Disk.seen_is_image c.conclude.new.disk (c.conclude.ensures.honest ∙ h)) s taken (state_in c.args.engine.now)
    (spelled c.in_ok-next.ensures.body c.state.ensures c.in_ok-next.ensures.fits)
    (subst (λ (l : Log). IsServable (body_limit l.layout) (state_in c.args.engine.now)) (sym c.conclude.ensures.log) (may_hold c.requires.held))
    c.in_ok-conclude.ensures.synced (c.in_ok-conclude.ensures.under h s taken (state_in c.args.engine.now) under)
