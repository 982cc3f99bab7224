use Rattle.std.proofs.Common.{◌≡◌, [], ◌∷◌, ◌++◌, true, ap, subst, ◌∙◌}
use Rattle.um_model.specs.Bytes.{text_spelling}
use Rattle.um_model.specs.Spellings.{profile_tag}
use Rattle.um_model.specs.StateSpellings.{FitState, FitTree, is_sound, pending_spelling, state_spelling, tree_spelling, units_spelling}
use Rattle.um_state.proofs.Fronts.{in_front, in_front_of_more}
use Rattle.um_state.proofs.Results.{on_any_err, on_err_more, on_ok_more}
use Rattle.um_state.proofs.StateFields.{behind_mark, eight_bytes}
use Rattle.um_state.specs.View.{state_of}
use Rattle.um_state.proofs.state.State.put_fields.Goals as goal

pub returns-clause-put : goal.returns-clause-put
returns-clause-put c =
    let s = c.self.inside in
    let tree = tree_spelling s.tree in
    let loaded = tree_spelling s.loaded in
    let mark = ap (λ m. c.args.out.now.items ++ m ∷ []) c.tag.ensures in
    let boot = text_spelling s.boot in
    let clock = eight_bytes s.clock in
    let next = eight_bytes s.next in
    let units = units_spelling s.units.held in
    let pending = pending_spelling s.pending.held in
    let e1 = c.in_ok-put.ensures.put ∙ (ap (λ t. c.push.new.self.items ++ tree_spelling t) c.tree.ensures ∙ ap (λ o. o ++ tree) (c.in_ok-push.ensures.items ∙ mark)) in
    let e2 = c.in_ok-put-2.ensures.put ∙ (ap (λ t. c.put.new.out.items ++ tree_spelling t) c.tree-2.ensures ∙ ap (λ o. o ++ loaded) e1) in
    let e3 = c.in_ok-put-3.ensures.put ∙ ap (λ o. o ++ boot) e2 in
    let e4 = c.in_ok-put-4.ensures.put ∙ ap (λ o. o ++ clock) e3 in
    let e5 = c.in_ok-put-5.ensures.put ∙ ap (λ o. o ++ next) e4 in
    let e6 = c.in_ok-put-6.ensures.put ∙ ap (λ o. o ++ units) e5 in
    let all = behind_mark (profile_tag s.profile) c.args.out.now.items tree loaded boot clock next units pending ∙ ap (λ s. c.args.out.now.items ++ state_spelling (state_of s)) c.self.view_is in
    on_ok_more c.put-7.result (λ e7. e7 ∙ (ap (λ o. o ++ pending) e6 ∙ all)) c.put-7.ensures.put

pub returns-in_err-put-clause-front : goal.returns-in_err-put-clause-front
returns-in_err-put-clause-front c =
    let old = c.args.out.now.items in
    let f1 = in_front old _ _ c.in_ok-push.ensures.items in
    on_any_err c.from_residual-in_err-put.result (in_front_of_more old _ _ f1 c.in_err-put.ensures.front)

pub returns-in_err-put-2-clause-front : goal.returns-in_err-put-2-clause-front
returns-in_err-put-2-clause-front c =
    let old = c.args.out.now.items in
    let f1 = in_front old _ _ c.in_ok-push.ensures.items in
    let f2 = in_front_of_more old _ _ f1 (in_front _ _ _ c.in_ok-put.ensures.put) in
    on_any_err c.from_residual-in_err-put-2.result (in_front_of_more old _ _ f2 c.in_err-put-2.ensures.front)

pub returns-in_err-put-3-clause-front : goal.returns-in_err-put-3-clause-front
returns-in_err-put-3-clause-front c =
    let old = c.args.out.now.items in
    let f1 = in_front old _ _ c.in_ok-push.ensures.items in
    let f2 = in_front_of_more old _ _ f1 (in_front _ _ _ c.in_ok-put.ensures.put) in
    let f3 = in_front_of_more old _ _ f2 (in_front _ _ _ c.in_ok-put-2.ensures.put) in
    on_any_err c.from_residual-in_err-put-3.result (in_front_of_more old _ _ f3 c.in_err-put-3.ensures.front)

pub returns-in_err-put-4-clause-front : goal.returns-in_err-put-4-clause-front
returns-in_err-put-4-clause-front c =
    let old = c.args.out.now.items in
    let f1 = in_front old _ _ c.in_ok-push.ensures.items in
    let f2 = in_front_of_more old _ _ f1 (in_front _ _ _ c.in_ok-put.ensures.put) in
    let f3 = in_front_of_more old _ _ f2 (in_front _ _ _ c.in_ok-put-2.ensures.put) in
    let f4 = in_front_of_more old _ _ f3 (in_front _ _ _ c.in_ok-put-3.ensures.put) in
    on_any_err c.from_residual-in_err-put-4.result (in_front_of_more old _ _ f4 c.in_err-put-4.ensures.front)

pub returns-in_err-put-5-clause-front : goal.returns-in_err-put-5-clause-front
returns-in_err-put-5-clause-front c =
    let old = c.args.out.now.items in
    let f1 = in_front old _ _ c.in_ok-push.ensures.items in
    let f2 = in_front_of_more old _ _ f1 (in_front _ _ _ c.in_ok-put.ensures.put) in
    let f3 = in_front_of_more old _ _ f2 (in_front _ _ _ c.in_ok-put-2.ensures.put) in
    let f4 = in_front_of_more old _ _ f3 (in_front _ _ _ c.in_ok-put-3.ensures.put) in
    let f5 = in_front_of_more old _ _ f4 (in_front _ _ _ c.in_ok-put-4.ensures.put) in
    on_any_err c.from_residual-in_err-put-5.result (in_front_of_more old _ _ f5 c.in_err-put-5.ensures.front)

pub returns-in_err-put-6-clause-front : goal.returns-in_err-put-6-clause-front
returns-in_err-put-6-clause-front c =
    let old = c.args.out.now.items in
    let f1 = in_front old _ _ c.in_ok-push.ensures.items in
    let f2 = in_front_of_more old _ _ f1 (in_front _ _ _ c.in_ok-put.ensures.put) in
    let f3 = in_front_of_more old _ _ f2 (in_front _ _ _ c.in_ok-put-2.ensures.put) in
    let f4 = in_front_of_more old _ _ f3 (in_front _ _ _ c.in_ok-put-3.ensures.put) in
    let f5 = in_front_of_more old _ _ f4 (in_front _ _ _ c.in_ok-put-4.ensures.put) in
    let f6 = in_front_of_more old _ _ f5 (in_front _ _ _ c.in_ok-put-5.ensures.put) in
    on_any_err c.from_residual-in_err-put-6.result (in_front_of_more old _ _ f6 c.in_err-put-6.ensures.front)

pub returns-clause-front : goal.returns-clause-front
returns-clause-front c =
    let old = c.args.out.now.items in
    let f1 = in_front old _ _ c.in_ok-push.ensures.items in
    let f2 = in_front_of_more old _ _ f1 (in_front _ _ _ c.in_ok-put.ensures.put) in
    let f3 = in_front_of_more old _ _ f2 (in_front _ _ _ c.in_ok-put-2.ensures.put) in
    let f4 = in_front_of_more old _ _ f3 (in_front _ _ _ c.in_ok-put-3.ensures.put) in
    let f5 = in_front_of_more old _ _ f4 (in_front _ _ _ c.in_ok-put-4.ensures.put) in
    let f6 = in_front_of_more old _ _ f5 (in_front _ _ _ c.in_ok-put-5.ensures.put) in
    let f7 = in_front_of_more old _ _ f6 (in_front _ _ _ c.in_ok-put-6.ensures.put) in
    on_err_more c.put-7.result (λ f. in_front_of_more old _ _ f7 f) c.put-7.ensures.front

pub returns-clause-fits : goal.returns-clause-fits
returns-clause-fits c =
    on_ok_more c.put-7.result
    (λ fit. subst (λ s. is_sound (state_of s) ≡ true → FitState (state_of s)) c.self.view_is
    (λ sound. record {
      tree = subst FitTree c.tree.ensures c.in_ok-put.ensures.fits;
      loaded = subst FitTree c.tree-2.ensures c.in_ok-put-2.ensures.fits;
      boot = c.in_ok-put-3.ensures.fits;
      clock = c.in_ok-put-4.ensures.fits;
      next = c.in_ok-put-5.ensures.fits;
      units = c.in_ok-put-6.ensures.fits;
      pending = fit;
      sound = sound;
    })) c.put-7.ensures.fits
