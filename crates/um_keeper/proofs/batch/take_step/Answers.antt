use Rattle.std.proofs.Common.{◌∙◌, [], ◌∷◌, ◌++◌, inl, inr, refl, sym, ap, subst, arith}
use Rattle.std.proofs.lemmas.Bool.{false≢true, true≢false}
use Rattle.um_engine.specs.Engine.{standing_in, reply_in, actions_in, state_after}
use Rattle.um_engine.specs.OfStore.{is_of_store}
use Rattle.um_model.specs.Standing.{Standing}
use Rattle.um_state.specs.View.{input_of}
use Rattle.um_keeper.specs.Underway.{UnderwayIn}
use Rattle.um_wire.specs.declared.refusal.Refusal.TheVariants.{Device}
use Rattle.um_keeper.proofs.Offered.{own_or_memory}
use Rattle.um_keeper.proofs.Results.{err_same, err_is, if_ok_from, ok_from, ok_always}
use Rattle.um_keeper.proofs.Underway.{still_longer, underway_stayed}
use Rattle.um_keeper.proofs.Judged.{step_on, owed_most}
use Rattle.um_keeper.proofs.batch.take_step.Goals as goal

pub returns-in_err-next-clause-during : goal.returns-in_err-next-clause-during
returns-in_err-next-clause-during g c h s before under = still_longer under (input_of c.args.input.now ∷ [])

pub returns-in_err-next-clause-refused : goal.returns-in_err-next-clause-refused
returns-in_err-next-clause-refused g c =
    err_same _ c.from_residual.result c.in_err-next.field-0.0 c.from_residual.ensures.1 (own_or_memory c.in_err-next.field-0.0 c.in_err-next.ensures.only c.in_err-next.ensures.refused)

pub returns-in_err-next-clause-fault : goal.returns-in_err-next-clause-fault
returns-in_err-next-clause-fault g c device = absurd (false≢true (sym c.in_err-next.ensures.only ∙ ap is_of_store (err_is c.from_residual.result _ Device c.from_residual.ensures.1 device)))

pub returns-then-has_effect-clause-fault : goal.returns-then-has_effect-clause-fault
returns-then-has_effect-clause-fault g c device = record {
  reply = reply_in c.in_ok-next.next;
  actions = actions_in c.in_ok-next.next;
  t = (state_after c.in_ok-next.next (standing_in c.args.engine.now)).state;
  step = c.in_ok-next.ensures.ok;
  accepted = c.in_ok-next.ensures.accepted;
  effect = λ idle. true≢false (sym c.if-has_effect.true ∙ c.has_effect.ensures ∙ c.in_ok-next.ensures.effect.1 idle);
}

pub returns-then-has_effect-clause-either : goal.returns-then-has_effect-clause-either
returns-then-has_effect-clause-either g c = ok_always c.record.result (inr (λ idle. true≢false (sym c.if-has_effect.true ∙ c.has_effect.ensures ∙ c.in_ok-next.ensures.effect.1 idle)))

pub returns-then-has_effect-clause-clean : goal.returns-then-has_effect-clause-clean
returns-then-has_effect-clause-clean g c = ok_from c.record.result (λ is clean. absurd (true≢false (sym is ∙ clean))) c.record.ensures.unsynced

pub returns-then-has_effect-clause-calls : goal.returns-then-has_effect-clause-calls
returns-then-has_effect-clause-calls g c = let owes = owed_most c.record.new.ahead.unsynced in omega (arith, c.record.ensures.calls, owes)

pub returns-clause-during : goal.returns-clause-during
returns-clause-during g c h s before under = still_longer under (input_of c.args.input.now ∷ [])

pub returns-clause-rises : goal.returns-clause-rises
returns-clause-rises g c = inl (refl, refl, omega arith)

pub returns-clause-either : goal.returns-clause-either
returns-clause-either g c = inl (c.in_ok-next.ensures.effect.0 (sym c.has_effect.ensures ∙ c.if-has_effect.false))

pub returns-clause-under : goal.returns-clause-under
returns-clause-under g c h s before under =
    let still = (c.in_ok-next.ensures.nothing (sym c.has_effect.ensures ∙ c.if-has_effect.false)).0 in
    subst (UnderwayIn s (before ++ input_of c.args.input.now ∷ []) (g.D.Disk.past c.args.disk.now) c.args.ahead.now) (sym (ap (λ (x : Standing). x.state) c.commit-reply.ensures.state ∙ still))
    (underway_stayed under (step_on c.requires.held c.in_ok-next.ensures.ok still))

-- the reply is that of the plan
pub returns-then-has_effect-clause-accepted : goal.returns-then-has_effect-clause-accepted
returns-then-has_effect-clause-accepted g c =
    if_ok_from c.record.result _ _ (λ made is r refused. c.in_ok-next.ensures.accepted r (sym is.0 ∙ refused)) c.record.ensures.ok
