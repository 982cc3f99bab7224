use Rattle.std.proofs.Common.{◌∙◌, [], ◌∷◌, inr, sym, ap}
use Rattle.um_model.specs.Standing.{Standing}
use Rattle.um_state.specs.View.{input_of}
use Rattle.um_keeper.proofs.Results.{err_same, if_ok_from, if_err_all}
use Rattle.um_keeper.proofs.Kept.{still, not_begun, stores, stores_at, stores_for, if_ok, new_numbers}
use Rattle.um_keeper.proofs.Offered.{own_or_memory}
use Rattle.um_keeper.proofs.keeper.Keeper.take_step.Goals as goal

pub returns-in_err-next-clause-during : goal.returns-in_err-next-clause-during
returns-in_err-next-clause-during g c h = not_begun (input_of c.args.input.now ∷ []) (g.met.D.Disk.seen_is_image c.args.self.now.disk h) (c.args.self.now.kept c.requires.working h)

pub returns-in_err-next-clause-stored : goal.returns-in_err-next-clause-stored
returns-in_err-next-clause-stored g c f h = stores (g.met.D.Disk.seen_is_image c.args.self.now.disk h) (c.args.self.now.kept f h)

pub returns-in_err-next-clause-refused : goal.returns-in_err-next-clause-refused
returns-in_err-next-clause-refused g c =
    err_same _ c.from_residual.result c.in_err-next.field-0.0 c.from_residual.ensures.1 (own_or_memory c.in_err-next.field-0.0 c.in_err-next.ensures.only c.in_err-next.ensures.refused)

pub returns-then-has_effect-clause-order : goal.returns-then-has_effect-clause-order
returns-then-has_effect-clause-order g c = if_ok c.record.result (λ receipt is. new_numbers c.in_ok-next.ensures.ok is.1 (ap (λ (x : Standing). x.state) is.2)) c.record.ensures.ok

pub returns-then-has_effect-clause-stored : goal.returns-then-has_effect-clause-stored
returns-then-has_effect-clause-stored g c f h = stores_at (g.met.D.Disk.seen_is_image c.record.new.self.disk (c.record.ensures.honest ∙ h)) (c.record.new.self.kept f (c.record.ensures.honest ∙ h)) c.record.ensures.place.layout

pub returns-clause-during : goal.returns-clause-during
returns-clause-during g c h = not_begun (input_of c.args.input.now ∷ []) (g.met.D.Disk.seen_is_image c.args.self.now.disk h) (c.args.self.now.kept c.requires.working h)

pub returns-clause-stored : goal.returns-clause-stored
returns-clause-stored g c f h = stores_for (g.met.D.Disk.seen_is_image c.args.self.now.disk h) (c.args.self.now.kept f h) (ap (λ s. s.state) c.commit-reply.ensures.state ∙ (c.in_ok-next.ensures.nothing (sym c.has_effect.ensures ∙ c.if-has_effect.false)).0)

pub returns-in_err-next-clause-kept : goal.returns-in_err-next-clause-kept
returns-in_err-next-clause-kept g c = if_err_all c.from_residual.result _ (λ e. inr (λ h. still (g.met.D.Disk.seen_is_image c.args.self.now.disk h) (c.args.self.now.kept c.requires.working h)))

-- the reply is that of the plan
pub returns-then-has_effect-clause-accepted : goal.returns-then-has_effect-clause-accepted
returns-then-has_effect-clause-accepted g c =
    if_ok_from c.record.result _ _ (λ receipt is r refused. c.in_ok-next.ensures.accepted r (sym is.0 ∙ refused)) c.record.ensures.ok
