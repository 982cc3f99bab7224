use Rattle.std.proofs.Common.{◌≡◌, ◌∙◌, ℕ, List, [], Err, length, sym, ap, subst, ⊎_elim, arith}
use Rattle.um_model.specs.Disk.{Image, seen}
use Rattle.um_model.specs.Store.{other, sector_count}
use Rattle.um_model.specs.declared.layout.Layout.{Layout}
use Rattle.um_model.specs.declared.layout.Slot.{Slot}
use Rattle.um_slot.specs.Snapshots.{IsWritten}
use Rattle.um_keeper.specs.Keeping.{has_bytes, log_generation}
use Rattle.std.proofs.lemmas.Bool.{false≢true}
use Rattle.um_keeper.proofs.Aside.{next_generation}
use Rattle.um_keeper.proofs.Results.{some_from, err_same}
use Rattle.um_keeper.proofs.Underway.{each_has, snapshot_begun, next_end, underway_finished}
use Rattle.um_keeper.proofs.step.complete.Goals as goal

-- the length that the call takes
sized : {n m k : ℕ} → n ≡ m → m ≡ k → k ≡ n
sized is same = sym (is ∙ same)

whole_by : (layout : Layout) (image : Image) (slot : Slot) (kept : List ℕ) {n : ℕ} → length kept ≡ n → IsWritten layout image slot kept (sector_count (length kept)) → IsWritten layout image slot kept (sector_count n)
whole_by layout image slot kept is = subst (λ n. IsWritten layout image slot kept (sector_count n)) is

pub returns-in_err-stored-clause-during : goal.returns-in_err-stored-clause-during
returns-in_err-stored-clause-during g c h whole s taken state under =
    snapshot_begun under c.requires.renewing (c.finish.ensures.during h under.body c.args.ahead.now.aside.body.items (sized c.len.ensures c.args.ahead.now.aside.body.ok.0) (whole_by c.args.ahead.now.log.layout (seen (g.D.Disk.past c.args.disk.now)) (other c.args.ahead.now.home.slot) c.args.ahead.now.aside.body.items (sized c.len.ensures c.args.ahead.now.aside.body.ok.0) whole) (each_has under))

pub returns-in_default-clause-during : goal.returns-in_default-clause-during
returns-in_default-clause-during g c h whole s taken state under =
    snapshot_begun under c.requires.renewing (c.finish.ensures.during h under.body c.args.ahead.now.aside.body.items (sized c.len.ensures c.args.ahead.now.aside.body.ok.0) (whole_by c.args.ahead.now.log.layout (seen (g.D.Disk.past c.args.disk.now)) (other c.args.ahead.now.home.slot) c.args.ahead.now.aside.body.items (sized c.len.ensures c.args.ahead.now.aside.body.ok.0) whole) (each_has under))

pub returns-clause-during : goal.returns-clause-during
returns-clause-during g c h whole s taken state under =
    snapshot_begun under c.requires.renewing (c.finish.ensures.during h under.body c.args.ahead.now.aside.body.items (sized c.len.ensures c.args.ahead.now.aside.body.ok.0) (whole_by c.args.ahead.now.log.layout (seen (g.D.Disk.past c.args.disk.now)) (other c.args.ahead.now.home.slot) c.args.ahead.now.aside.body.items (sized c.len.ensures c.args.ahead.now.aside.body.ok.0) whole) (each_has under))

pub returns-clause-under : goal.returns-clause-under
returns-clause-under g c h whole s taken state under =
    let a = c.args.ahead.now in
    let at = some_from _ c.in-Some.is c.in_ok-stored.ensures.home in
    let ends = next_end under c.requires.renewing at.1 in
    underway_finished under c.requires.renewing (g.met.D.Disk.seen_is_image c.finish.new.disk (c.finish.ensures.honest ∙ h)) at.0 at.1 c.clear.ensures.body c.clear.ensures.written
    (some_from _ c.in-Some.is c.in_ok-stored.ensures.ok h under.body a.aside.body.items (sized c.len.ensures c.args.ahead.now.aside.body.ok.0) (whole_by c.args.ahead.now.log.layout (seen (g.D.Disk.past c.args.disk.now)) (other c.args.ahead.now.home.slot) c.args.ahead.now.aside.body.items (sized c.len.ensures c.args.ahead.now.aside.body.ok.0) whole) (each_has under) a.log.number a.log.next ends)

pub returns-in_err-stored-clause-refused : goal.returns-in_err-stored-clause-refused
returns-in_err-stored-clause-refused g c =
    err_same _ c.from_residual.result c.in_err-stored.field-0.0 c.from_residual.ensures.1
    (⊎_elim (λ device. device) (λ spent. absurd (omega (arith, c.finish.ensures.spent.0 (c.in_err-stored.was ∙ ap Err spent), (c.args.ahead.now.early c.requires.renewing)))) c.in_err-stored.ensures.err)

none_now : (n : ℕ) → n ≡ log_generation n []
none_now n = omega arith

pub invariant_of-ahead : goal.invariant_of-ahead
invariant_of-ahead g c =
    let a = c.args.ahead.now in
    let at = some_from _ c.in-Some.is c.in_ok-stored.ensures.home in
    let next = next_generation a.home.generation a.log.generation a.aside.body.items a.same c.requires.renewing in
    record {
      same = next ∙ sym at.1 ∙ none_now c.in-Some.home.generation ∙ ap (log_generation c.in-Some.home.generation) (sym c.clear.ensures.body);
      early = λ sure. absurd (false≢true (ap has_bytes (sym c.clear.ensures.body) ∙ sure));
      short = omega (arith, ap length c.clear.ensures.body);
    }
