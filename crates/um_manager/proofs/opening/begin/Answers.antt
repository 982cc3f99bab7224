use Rattle.std.proofs.Common.{◌≡◌, ◌≢◌, ◌∙◌, ℕ, List, ◌∷◌, [], Ok, Err, refl, sym, subst}
use Rattle.std.specs.Bool.{IsTrue}
use Rattle.um_keeper.specs.Keepers.{disk_in, state_in, size_in, has_failed}
use Rattle.um_fates.specs.Live.{AreLive}
use Rattle.um_manager.specs.Opening.{Adopted, Refuses, unadopted, boot_at}
use Rattle.um_manager.specs.Places.{Place, place_in, log_in}
use Rattle.um_manager.specs.Turns.{now_in}
use Rattle.um_manager.proofs.Beginning.{refuses_boot, if_err_same}
use Rattle.um_manager.proofs.Booting.{live_after}
use Rattle.um_manager.proofs.Offering.{trusts, not_begun}
use Rattle.um_manager.proofs.Placing.{same_place, same_failed, answered_no_device, handed_on, handed_back, ok_no_device, failed_on}
use Rattle.std.proofs.lemmas.Result.{err_from_is_err_and}
use Rattle.um_manager.proofs.opening.begin.Goals as goal

pub adopt-requires-clause-live : goal.adopt-requires-clause-live
adopt-requires-clause-live g c =
    let booted = c.in_ok-offer_boot.ensures.booted in
    let same = subst (λ s. c.args.boot ≡ s.boot → AreLive s.units c.in_ok-room.room.live.items) c.state.ensures c.in_ok-room.ensures.same in
    let other = subst (λ s. c.args.boot ≢ s.boot → c.in_ok-room.room.live.items ≡ []) c.state.ensures c.in_ok-room.ensures.other in
    subst (λ l. AreLive (state_in c.offer_boot.new.keeper).units l) (sym c.as_slice-live.ensures.value)
    (live_after (size_in c.args.keeper.now) c.args.moment c.args.boot (state_in c.args.keeper.now) (state_in c.offer_boot.new.keeper) booted.0 [] c.in_ok-room.room.live.items booted.1 same other)

pub returns-clause-began : goal.returns-clause-began
returns-clause-began g c =
    let booted = c.in_ok-offer_boot.ensures.booted in
    let live = subst (λ l. AreLive (state_in c.offer_boot.new.keeper).units l) (sym c.as_slice-live.ensures.value)
    (live_after (size_in c.args.keeper.now) c.args.moment c.args.boot (state_in c.args.keeper.now) (state_in c.offer_boot.new.keeper) booted.0 [] c.in_ok-room.room.live.items booted.1
    (subst (λ s. c.args.boot ≡ s.boot → AreLive s.units c.in_ok-room.room.live.items) c.state.ensures c.in_ok-room.ensures.same)
    (subst (λ s. c.args.boot ≢ s.boot → c.in_ok-room.room.live.items ≡ []) c.state.ensures c.in_ok-room.ensures.other)) in
    let D = g.D.Disk in
    let old = c.args.keeper.now in
    let mid = c.offer_boot.new.keeper in
    let new = c.adopt.new.keeper in
    let before = now_in mid (g.C.Children.past c.args.children.now) c.in_ok-room.room.marks [] (D.past (disk_in mid)) in
    let after = now_in new (g.C.Children.past c.adopt.new.children) c.adopt.new.marks [] (D.past (disk_in new)) in
    let there = place_in (D.honest (disk_in mid)) mid in
    let here = place_in (D.honest (disk_in old)) old in
    let same : there ≡ here = same_place c.offer_boot.ensures.store.place.size c.offer_boot.ensures.store.place.layout c.offer_boot.ensures.store.disk (same_failed c.in_ok-offer_boot.was c.offer_boot.ensures.store.failed) in
    record {
      mid = before;
      reply = c.in_ok-offer_boot.ensures.booted.0;
      booted = c.in_ok-offer_boot.ensures.booted.1;
      asked_none = refl;
      left = c.offer_boot.ensures.left;
      adopted =
          subst (λ (p : Place). Adopted p (g.C.Children.honest c.args.children.now) (g.C.Children.whole c.adopt.new.children) (Ok tt) c.args.moment before after) same
          (subst (λ r. Adopted there (g.C.Children.honest c.args.children.now) (g.C.Children.whole c.adopt.new.children) r c.args.moment before after) c.in_ok-adopt.was c.adopt.ensures.adopts);
      numbers = c.as_slice-live.result.now;
      numbers_are = live;
      count_is = refl;
    }

pub returns-in_err-room-clause-refuses : goal.returns-in_err-room-clause-refuses
returns-in_err-room-clause-refuses g c =
    let D = g.D.Disk in
    let old = c.args.keeper.now in
    refuses_boot _ _ _ (place_in (D.honest (disk_in old)) old) c.args.moment c.args.boot (state_in old) (state_in old) (g.C.Children.past c.args.children.now) (D.past (disk_in old)) (D.past (disk_in old)) (log_in old) (log_in old) refl
    (λ t. let (h, f) = trusts (D.honest (disk_in old)) (has_failed old) t in not_begun (boot_at c.args.moment c.args.boot ∷ []) (c.is_stored.ensures.stored f h))

pub returns-in_err-offer_boot-clause-refuses : goal.returns-in_err-offer_boot-clause-refuses
returns-in_err-offer_boot-clause-refuses g c =
    let D = g.D.Disk in
    let old = c.args.keeper.now in
    let new = c.offer_boot.new.keeper in
    refuses_boot _ _ _ (place_in (D.honest (disk_in old)) old) c.args.moment c.args.boot (state_in old) (state_in new) (g.C.Children.past c.args.children.now) (D.past (disk_in old)) (D.past (disk_in new)) (log_in old) (log_in new)
    c.in_err-offer_boot.ensures.state c.offer_boot.ensures.left

pub returns-in_err-adopt-clause-refuses : goal.returns-in_err-adopt-clause-refuses
returns-in_err-adopt-clause-refuses g c =
    let booted = c.in_ok-offer_boot.ensures.booted in
    let live = subst (λ l. AreLive (state_in c.offer_boot.new.keeper).units l) (sym c.as_slice-live.ensures.value)
    (live_after (size_in c.args.keeper.now) c.args.moment c.args.boot (state_in c.args.keeper.now) (state_in c.offer_boot.new.keeper) booted.0 [] c.in_ok-room.room.live.items booted.1
    (subst (λ s. c.args.boot ≡ s.boot → AreLive s.units c.in_ok-room.room.live.items) c.state.ensures c.in_ok-room.ensures.same)
    (subst (λ s. c.args.boot ≢ s.boot → c.in_ok-room.room.live.items ≡ []) c.state.ensures c.in_ok-room.ensures.other)) in
    let D = g.D.Disk in
    let old = c.args.keeper.now in
    let mid = c.offer_boot.new.keeper in
    let new = c.adopt.new.keeper in
    let start = now_in old (g.C.Children.past c.args.children.now) [] [] (D.past (disk_in old)) in
    let before = now_in mid (g.C.Children.past c.args.children.now) c.in_ok-room.room.marks [] (D.past (disk_in mid)) in
    let after = now_in new (g.C.Children.past c.adopt.new.children) c.adopt.new.marks [] (D.past (disk_in new)) in
    let there = place_in (D.honest (disk_in mid)) mid in
    let here = place_in (D.honest (disk_in old)) old in
    let same : there ≡ here = same_place c.offer_boot.ensures.store.place.size c.offer_boot.ensures.store.place.layout c.offer_boot.ensures.store.disk (same_failed c.in_ok-offer_boot.was c.offer_boot.ensures.store.failed) in
    if_err_same _ (λ e. (marks : List ℕ) × Refuses here (g.C.Children.honest c.args.children.now) (g.C.Children.whole c.adopt.new.children) e c.args.moment c.args.boot start (now_in new (g.C.Children.past c.adopt.new.children) marks [] (D.past (disk_in new))))
    c.in_err-adopt.field-0.0 c.from_residual-in_err-adopt.ensures.1 (
      c.adopt.new.marks,
      unadopted c.in_err-adopt.ensures.refused (record {
        mid = before;
        reply = c.in_ok-offer_boot.ensures.booted.0;
        booted = c.in_ok-offer_boot.ensures.booted.1;
        asked_none = refl;
        left = c.offer_boot.ensures.left;
        adopted =
            subst (λ (p : Place). Adopted p (g.C.Children.honest c.args.children.now) (g.C.Children.whole c.adopt.new.children) (Err c.in_err-adopt.field-0.0) c.args.moment before after) same
            (subst (λ r. Adopted there (g.C.Children.honest c.args.children.now) (g.C.Children.whole c.adopt.new.children) r c.args.moment before after) c.in_err-adopt.was c.adopt.ensures.adopts);
        numbers = c.as_slice-live.result.now;
        numbers_are = live;
        count_is = refl;
      }),
    )

pub returns-in_err-adopt-clause-frame : goal.returns-in_err-adopt-clause-frame
returns-in_err-adopt-clause-frame g c =
    let boot = c.offer_boot.ensures.store in
    let frame = c.adopt.ensures.frame in
    let (y, err, same) = err_from_is_err_and c.from_residual-in_err-adopt.result c.from_residual-in_err-adopt.ensures.1 in
    record {
      store = record {
        place = record { layout = frame.store.place.layout ∙ boot.place.layout; size = frame.store.place.size ∙ boot.place.size; opened = frame.store.place.opened ∙ boot.place.opened };
        disk = frame.store.disk ∙ boot.disk;
        failed = failed_on (same_failed c.in_ok-offer_boot.was boot.failed) (handed_on err same c.in_err-adopt.was) (handed_back err same c.in_err-adopt.was) frame.store.failed;
      };
      children = frame.children;
    }

pub returns-clause-frame : goal.returns-clause-frame
returns-clause-frame g c =
    let boot = c.offer_boot.ensures.store in
    let frame = c.adopt.ensures.frame in
    record {
      store = record {
        place = record { layout = frame.store.place.layout ∙ boot.place.layout; size = frame.store.place.size ∙ boot.place.size; opened = frame.store.place.opened ∙ boot.place.opened };
        disk = frame.store.disk ∙ boot.disk;
        failed = failed_on (same_failed c.in_ok-offer_boot.was boot.failed) (λ device. absurd (answered_no_device c.in_ok-adopt.was device)) (λ device. absurd (ok_no_device device)) frame.store.failed;
      };
      children = frame.children;
    }
