use Rattle.std.proofs.Common.{◌≡◌, ◌∙◌, ◌∷◌, ◌+◌, drop, true, Result, Ok, Err, ap, sym, subst, inl, inr, rules}
use Rattle.std.specs.Bool.{IsTrue}
use Rattle.std.proofs.lemmas.List.{drop_more}
use Rattle.um_keeper.specs.Keepers.{disk_in, has_failed}
use Rattle.um_manager.specs.Places.{Place, place_in}
use Rattle.um_manager.specs.Scripts.{Runs, Stops}
use Rattle.um_manager.specs.Turns.{Turned, now_in}
use Rattle.um_manager.proofs.Placing.{same_place, same_failed, same_err, refused_not_ok, counted_ok, works, all_worked, last_reopen}
use Rattle.um_manager.proofs.Turning.{not_refused, turned_less}
use Rattle.um_sector.specs.Refused.{CountsDevice, IsLost}
use Rattle.um_wire.specs.declared.refusal.Refusal.{Refusal}
use Rattle.um_wire.specs.declared.refusal.Refusal.TheVariants.{Device, Reopen}
use Rattle.std.specs.Prelude.{◌⊎◌, ◌↔◌, IfErr}
use Rattle.um_manager.proofs.script.run.Goals as goal

pub loop-step-preserved : goal.loop-step-preserved
loop-step-preserved g c =
    let D = g.D.Disk in
    let first = c.args.keeper.now in
    let old = c.loop-step.keeper in
    let new = c.turn.new.keeper in
    let inv = c.loop-step.invariant in
    let before = now_in old (g.C.Children.past c.loop-step.children) c.loop-step.marks c.loop-step.sessions (D.past (disk_in old)) in
    let after = now_in new (g.C.Children.past c.turn.new.children) c.turn.new.marks c.turn.new.sessions (D.past (disk_in new)) in
    let start = place_in (D.honest (disk_in first)) first in
    let there = place_in (D.honest (disk_in old)) old in
    let place : there ≡ start = same_place inv.place.size inv.place.layout inv.disk inv.failed in
    let item : drop c.loop-step.step-index c.args.steps.now ≡ c.step-item.result ∷ drop (c.loop-step.step-index + 1) c.args.steps.now =
    drop_more c.args.steps.now c.loop-step.step-index c.step-item.result c.loop-step-test.true ∙ ap (λ s. s ∷ drop (c.loop-step.step-index + 1) c.args.steps.now) (search (rules, c.step-item.is)) in
    record {
      done = λ result b w still rest.
          let turned = c.turn.ensures.turns.1 (not_refused c.turn.result _ _ c.in_ok-turn.was) in
          let honest = g.C.Children.honest c.args.children.now in
          inv.done result b w (λ x. c.turn.ensures.frame.children.whole (still x))
          (subst (λ l. Runs start honest w l result before b) (sym item)
          (inr (
            after,
            subst (λ (p : Place). Turned p honest w (Ok tt) c.step-item.result.moment c.step-item.result.pieces before after) place
                (subst (λ r. Turned there honest w r c.step-item.result.moment c.step-item.result.pieces before after) c.in_ok-turn.was
                (subst (λ pieces. Turned there honest w c.turn.result c.step-item.result.moment pieces before after) c.as_slice-pieces.ensures.pieces
                (subst (λ h. Turned there h w c.turn.result c.step-item.result.moment c.as_slice-pieces.result.now before after) inv.honest (turned_less (λ x. x) still turned)))),
            rest,
          )));
      whole = search rules;
      honest = search rules;
      place = record { layout = c.turn.ensures.frame.store.place.layout ∙ inv.place.layout; size = c.turn.ensures.frame.store.place.size ∙ inv.place.size; opened = c.turn.ensures.frame.store.place.opened ∙ inv.place.opened };
      disk = c.turn.ensures.frame.store.disk ∙ inv.disk;
      failures = counted_ok c.in_ok-turn.was c.turn.ensures.device ∙ inv.failures;
      worked = λ some. sym inv.failed ∙ works (has_failed old) c.in_ok-turn.was c.turn.ensures.reopen;
      failed = same_failed c.in_ok-turn.was c.turn.ensures.frame.store.failed ∙ inv.failed;
      each = search rules;
    }

pub returns-in_err-turn-clause-runs : goal.returns-in_err-turn-clause-runs
returns-in_err-turn-clause-runs g c =
    let D = g.D.Disk in
    let first = c.args.keeper.now in
    let old = c.loop-step.keeper in
    let new = c.turn.new.keeper in
    let inv = c.loop-step.invariant in
    let before = now_in old (g.C.Children.past c.loop-step.children) c.loop-step.marks c.loop-step.sessions (D.past (disk_in old)) in
    let after = now_in new (g.C.Children.past c.turn.new.children) c.turn.new.marks c.turn.new.sessions (D.past (disk_in new)) in
    let start = place_in (D.honest (disk_in first)) first in
    let there = place_in (D.honest (disk_in old)) old in
    let place : there ≡ start = same_place inv.place.size inv.place.layout inv.disk inv.failed in
    let item : drop c.loop-step.step-index c.args.steps.now ≡ c.step-item.result ∷ drop (c.loop-step.step-index + 1) c.args.steps.now =
    drop_more c.args.steps.now c.loop-step.step-index c.step-item.result c.loop-step-test.true ∙ ap (λ s. s ∷ drop (c.loop-step.step-index + 1) c.args.steps.now) (search (rules, c.step-item.is)) in
    let same : c.from_residual.result ≡ c.turn.result = same_err c.from_residual.result c.turn.result _ c.from_residual.ensures.1 c.in_err-turn.was in
    let honest = g.C.Children.honest c.args.children.now in
    let whole = g.C.Children.whole c.turn.new.children in
    inv.done c.from_residual.result after whole c.turn.ensures.frame.children.whole
    (subst (λ l. Runs start honest whole l c.from_residual.result before after) (sym item)
    (inl (subst (λ r. Stops start honest whole c.step-item.result r before after) (sym same)
    (subst (λ (p : Place). Stops p honest whole c.step-item.result c.turn.result before after) place (
      refused_not_ok c.in_err-turn.was,
      c.turn.ensures.turns.0,
      λ differs. subst (λ pieces. Turned there honest whole c.turn.result c.step-item.result.moment pieces before after) c.as_slice-pieces.ensures.pieces
          (subst (λ h. Turned there h whole c.turn.result c.step-item.result.moment c.as_slice-pieces.result.now before after) inv.honest (c.turn.ensures.turns.1 differs)),
    )))))

pub returns-clause-reopen : goal.returns-clause-reopen
returns-clause-reopen g c = λ other. all_worked c.args.steps.now c.loop-step.step-index (has_failed c.args.keeper.now) tt c.loop-step.invariant.worked (search rules)

pub returns-in_err-turn-clause-refused : goal.returns-in_err-turn-clause-refused
returns-in_err-turn-clause-refused g c =
    subst (λ r. IfErr r (λ e. IsLost e ⊎ (e ≡ Reopen))) (sym (same_err c.from_residual.result c.turn.result _ c.from_residual.ensures.1 c.in_err-turn.was)) c.turn.ensures.refused

pub returns-in_err-turn-clause-device : goal.returns-in_err-turn-clause-device
returns-in_err-turn-clause-device g c =
    let D = g.D.Disk in
    let n = D.failures (disk_in c.turn.new.keeper) in
    subst (λ m. CountsDevice c.from_residual.result m n) c.loop-step.invariant.failures
    (subst (λ r. CountsDevice r (D.failures (disk_in c.loop-step.keeper)) n) (sym (same_err c.from_residual.result c.turn.result _ c.from_residual.ensures.1 c.in_err-turn.was)) c.turn.ensures.device)

pub returns-in_err-turn-clause-reopen : goal.returns-in_err-turn-clause-reopen
returns-in_err-turn-clause-reopen g c =
    last_reopen c.args.steps.now c.loop-step.step-index (same_err c.from_residual.result c.turn.result _ c.from_residual.ensures.1 c.in_err-turn.was) c.loop-step.invariant.failed c.loop-step-test.true
    c.turn.ensures.reopen

pub returns-in_err-turn-clause-frame : goal.returns-in_err-turn-clause-frame
returns-in_err-turn-clause-frame g c =
    let first = c.args.keeper.now in
    let new = c.turn.new.keeper in
    let inv = c.loop-step.invariant in
    let same : c.from_residual.result ≡ c.turn.result = same_err c.from_residual.result c.turn.result _ c.from_residual.ensures.1 c.in_err-turn.was in
    let store = c.turn.ensures.frame.store in
    let children = c.turn.ensures.frame.children in
    record {
      store = record {
        place = record { layout = store.place.layout ∙ inv.place.layout; size = store.place.size ∙ inv.place.size; opened = store.place.opened ∙ inv.place.opened };
        disk = store.disk ∙ inv.disk;
        failed = subst (λ (r : Result Unit Refusal). (has_failed new ≡ true) ↔ ((has_failed first ≡ true) ⊎ (r ≡ Err Device))) (sym same)
            (subst (λ b. (has_failed new ≡ true) ↔ ((b ≡ true) ⊎ (c.turn.result ≡ Err Device))) inv.failed store.failed);
      };
      children = record { honest = children.honest ∙ inv.honest; whole = λ is. inv.whole (children.whole is) };
    }
