use Rattle.std.proofs.Common.{◌≡◌, ◌∙◌, [], Bool, false, Result, Ok, Err, inl, inr, refl, sym, ap, subst}
use Rattle.um_keeper.specs.Keepers.{disk_in, left_in, has_failed}
use Rattle.um_wire.specs.declared.refusal.Refusal.{Refusal}
use Rattle.um_manager.proofs.Offering.{trusts, ok_not_err}
use Rattle.um_manager.proofs.Stepping.{refusal_not_ok, only_device, few_sectors, was_working, still_few}
use Rattle.um_manager.specs.Places.{place_in}
use Rattle.um_manager.specs.Turns.{now_in, WritesOn}
use Rattle.um_manager.proofs.round.write_on.Goals as goal

pub returns-in-Ok-step-clause-writes : goal.returns-in-Ok-step-clause-writes
returns-in-Ok-step-clause-writes g c =
    let D = g.D.Disk in
    let old = c.args.keeper.now in
    let new = c.step.new.self in
    let works : has_failed old ≡ false = was_working c.args.submitted c.in-Ok.field-0 c.in-Ok.is c.requires.working in
    subst (λ (store : Result Unit Refusal). WritesOn (place_in (D.honest (disk_in old)) old) store (Ok tt)
    (now_in old [] [] [] (D.past (disk_in old))) (now_in new [] [] [] (D.past (disk_in new)))) (sym c.in-Ok.is)
    (record {
      behind = Ok tt;
      result_is = refl;
      behind_is = inl refl;
      state = ap (λ s. s.state) c.step.ensures.stands;
      generation = c.step.ensures.log.0;
      next = c.step.ensures.log.2;
      calls = few_sectors (D.calls (disk_in old)) (D.calls (disk_in new)) (left_in old) c.step.ensures.calls;
      still = λ e is. absurd (ok_not_err is);
      steady = λ t ok. c.step.ensures.during works (trusts (D.honest (disk_in old)) (has_failed old) t).0;
    })

pub returns-in-Err-step-clause-writes : goal.returns-in-Err-step-clause-writes
returns-in-Err-step-clause-writes g c =
    let D = g.D.Disk in
    let old = c.args.keeper.now in
    let new = c.step.new.self in
    let works : has_failed old ≡ false = was_working c.args.submitted c.in-Ok.field-0 c.in-Ok.is c.requires.working in
    subst (λ (store : Result Unit Refusal). WritesOn (place_in (D.honest (disk_in old)) old) store (Err c.in-Err-step.refusal)
    (now_in old [] [] [] (D.past (disk_in old))) (now_in new [] [] [] (D.past (disk_in new)))) (sym c.in-Ok.is)
    (record {
      behind = Err c.in-Err-step.refusal;
      result_is = refl;
      behind_is = inr (refl, ap Err (only_device c.step.result c.in-Err-step.refusal c.in-Err-step.is c.in-Err-step.ensures.refused c.step.ensures.reopen works));
      state = ap (λ s. s.state) c.step.ensures.stands;
      generation = c.step.ensures.log.0;
      next = c.step.ensures.log.2;
      calls = few_sectors (D.calls (disk_in old)) (D.calls (disk_in new)) (left_in old) c.step.ensures.calls;
      still = λ e is. absurd (ok_not_err is);
      steady = λ t ok. c.step.ensures.during works (trusts (D.honest (disk_in old)) (has_failed old) t).0;
    })

pub returns-in-Err-clause-writes : goal.returns-in-Err-clause-writes
returns-in-Err-clause-writes g c =
    let D = g.D.Disk in
    let old = c.args.keeper.now in
    let now = now_in old [] [] [] (D.past (disk_in old)) in
    subst (λ (store : Result Unit Refusal). WritesOn (place_in (D.honest (disk_in old)) old) store (Err c.in-Err.refusal) now now) (sym c.in-Err.is)
    (record {
      behind = Ok tt;
      result_is = refl;
      behind_is = inl refl;
      state = refl;
      generation = refl;
      next = refl;
      calls = still_few (D.calls (disk_in old));
      still = λ e is. refl;
      steady = λ t ok. absurd (refusal_not_ok ok);
    })
