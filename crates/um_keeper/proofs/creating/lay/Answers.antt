use Rattle.std.proofs.Common.{◌≡◌, ◌≤◌, ◌+◌, ◌∙◌, List, ℕ, [], ◌∷◌, ap, sym, subst, arith}
use Rattle.std.specs.Prelude.{length, IfSome}
use Rattle.um_model.specs.Disk.{seen, Past, Sector, Image, Images, During}
use Rattle.um_sector.specs.Runs.{IsLaid, MaybeLaid, more}
use Rattle.um_sector.proofs.RunLaws.{more-more}
use Rattle.um_model.specs.Machine.{empty_state}
use Rattle.um_model.specs.StateSpellings.{state_spelling}
use Rattle.um_model.specs.Store.{current, superblock, sector_count, IsNewest, IsNoneAbove}
use Rattle.um_model.specs.declared.layout.Slot.TheVariants.{A}
use Rattle.um_laws.proofs.DiskLaws.{at_end, followed, weaker}
use Rattle.um_keeper.specs.Keeping.{snapshot_calls}
use Rattle.um_keeper.specs.Creating.{blank, unsynced, NoneOrEmpty, IsEmptyStore}
use Rattle.um_keeper.proofs.Wiping.{IsZeroed, while_zeroed, while_made, wiped_none, wiped_above, empty_room, made, made_maybe}
use Rattle.um_keeper.proofs.creating.lay.Goals as goal

pub returns-in_err-unformat-clause-during : goal.returns-in_err-unformat-clause-during
returns-in_err-unformat-clause-during g c h = unsynced (c.in_err-unformat.ensures.unsynced h) (c.unformat.ensures.during h)

pub returns-in_err-wipe-clause-during : goal.returns-in_err-wipe-clause-during
returns-in_err-wipe-clause-during g c h =
    while_zeroed c.args.layout (g.D.Disk.past c.args.disk.now) (g.D.Disk.past c.unformat.new.disk) (c.in_ok-unformat.ensures.first h) (c.unformat.ensures.during h) (g.D.Disk.past c.wipe.new.disk)
    (c.wipe.ensures.during (c.unformat.ensures.honest ∙ h) (c.in_ok-unformat.ensures.ok h))

-- sector 0 is zeros until it is written
zero_run : (first mid new : Past) → During first mid IsZeroed → ((sector : Sector) → Images mid (λ image. image 0 ≡ sector) → During mid new (λ image. image 0 ≡ sector)) → During first new IsZeroed
zero_run first mid new run more = followed first mid new IsZeroed run (more blank (at_end first mid IsZeroed run))

pub returns-in_err-write_first-clause-during : goal.returns-in_err-write_first-clause-during
returns-in_err-write_first-clause-during g c h =
    let h1 = c.unformat.ensures.honest ∙ h in
    let p1 = g.D.Disk.past c.unformat.new.disk in
    let p3 = g.D.Disk.past c.write_first.new.disk in
    while_zeroed c.args.layout (g.D.Disk.past c.args.disk.now) p1 (c.in_ok-unformat.ensures.first h) (c.unformat.ensures.during h) p3
    (zero_run p1 (g.D.Disk.past c.wipe.new.disk) p3 (c.wipe.ensures.during h1 (c.in_ok-unformat.ensures.ok h)) (c.write_first.ensures.during (c.wipe.ensures.honest ∙ h1)))

pub unreachable-requires : goal.unreachable-requires
unreachable-requires g c =
    let long = (c.write_first.ensures.long.0 (c.in_ok-write_first.was ∙ ap (λ o. Rattle.std.proofs.Common.Ok o) c.in_default.is)) in
    let same = ap (λ (l : List ℕ). length l) c.requires.empty in
    omega (arith, long, same, empty_room c.args.layout)

-- the disk past sector 0 before that is written
module _ (layout : Rattle.um_model.specs.declared.layout.Layout.Layout) (first mid old new : Past) (body : List ℕ) (is : body ≡ state_spelling empty_state)
    (newest : IsNewest layout (seen mid) A 1 body × IsNoneAbove layout (seen mid) 0) (zero : IsZeroed (seen mid)) where
  made_run : During mid new (MaybeLaid (seen mid) 0 (superblock current layout ∷ [])) → During mid new (NoneOrEmpty layout)
  made_run run = weaker mid new _ _ (made_maybe layout (seen mid) (subst (IsNewest layout (seen mid) A 1) is newest.0) newest.1 zero) run

  made_all : IsLaid (seen mid) 0 (superblock current layout ∷ []) (seen new) → ((image : Image) → Rattle.um_model.specs.Disk.IsImage new image → image ≡ seen new) → Images new (IsEmptyStore layout)
  made_all laid settled image at = subst (IsEmptyStore layout) (sym (settled image at)) (made layout (seen mid) (subst (IsNewest layout (seen mid) A 1) is newest.0) newest.1 (seen new) laid)

pub returns-in_err-write_run_synced-clause-during : goal.returns-in_err-write_run_synced-clause-during
returns-in_err-write_run_synced-clause-during g c h =
    let h1 = c.unformat.ensures.honest ∙ h in
    let h2 = c.wipe.ensures.honest ∙ h1 in
    let h3 = c.write_first.ensures.honest ∙ h2 in
    let p0 = g.D.Disk.past c.args.disk.now in
    let p1 = g.D.Disk.past c.unformat.new.disk in
    let p2 = g.D.Disk.past c.wipe.new.disk in
    let p3 = g.D.Disk.past c.write_first.new.disk in
    let p4 = g.D.Disk.past c.write_run_synced.new.disk in
    let some = λ (P : _ → Type 0) (o : IfSome c.in_ok-write_first.field-0 P). subst (λ x. IfSome x P) c.in-Some.is o in
    let run = zero_run p1 p2 p3 (c.wipe.ensures.during h1 (c.in_ok-unformat.ensures.ok h)) (c.write_first.ensures.during h2) in
    let zero = at_end p1 p3 IsZeroed run (seen p3) (g.met.D.Disk.seen_is_image c.write_first.new.disk h3) in
    let w = c.in_ok-wipe.ensures.ok h1 (c.in_ok-unformat.ensures.ok h (seen p1) (g.met.D.Disk.seen_is_image c.unformat.new.disk h1)) in
    let newest = some _ c.in_ok-write_first.ensures.ok h2 (wiped_none c.args.layout (seen p2) w) (wiped_above c.args.layout (seen p2) w) in
    while_made c.args.layout p0 p1 (c.in_ok-unformat.ensures.first h) (c.unformat.ensures.during h) p3 p4 run
    (made_run c.args.layout p1 p3 p0 p4 c.args.body.now c.requires.empty newest zero
    (subst (λ (s : Sector). During p3 p4 (MaybeLaid (seen p3) 0 (s ∷ []))) c.superblock.ensures (c.write_run_synced.ensures.settled_during h3 (some _ c.in_ok-write_first.ensures.settled h2))))

pub returns-clause-during : goal.returns-clause-during
returns-clause-during g c h =
    let h1 = c.unformat.ensures.honest ∙ h in
    let h2 = c.wipe.ensures.honest ∙ h1 in
    let h3 = c.write_first.ensures.honest ∙ h2 in
    let p0 = g.D.Disk.past c.args.disk.now in
    let p1 = g.D.Disk.past c.unformat.new.disk in
    let p2 = g.D.Disk.past c.wipe.new.disk in
    let p3 = g.D.Disk.past c.write_first.new.disk in
    let p4 = g.D.Disk.past c.write_run_synced.new.disk in
    let some = λ (P : _ → Type 0) (o : IfSome c.in_ok-write_first.field-0 P). subst (λ x. IfSome x P) c.in-Some.is o in
    let run = zero_run p1 p2 p3 (c.wipe.ensures.during h1 (c.in_ok-unformat.ensures.ok h)) (c.write_first.ensures.during h2) in
    let zero = at_end p1 p3 IsZeroed run (seen p3) (g.met.D.Disk.seen_is_image c.write_first.new.disk h3) in
    let w = c.in_ok-wipe.ensures.ok h1 (c.in_ok-unformat.ensures.ok h (seen p1) (g.met.D.Disk.seen_is_image c.unformat.new.disk h1)) in
    let newest = some _ c.in_ok-write_first.ensures.ok h2 (wiped_none c.args.layout (seen p2) w) (wiped_above c.args.layout (seen p2) w) in
    while_made c.args.layout p0 p1 (c.in_ok-unformat.ensures.first h) (c.unformat.ensures.during h) p3 p4 run
    (made_run c.args.layout p1 p3 p0 p4 c.args.body.now c.requires.empty newest zero
    (subst (λ (s : Sector). During p3 p4 (MaybeLaid (seen p3) 0 (s ∷ []))) c.superblock.ensures (c.write_run_synced.ensures.settled_during h3 (some _ c.in_ok-write_first.ensures.settled h2))))

pub returns-clause-ok : goal.returns-clause-ok
returns-clause-ok g c h =
    let h1 = c.unformat.ensures.honest ∙ h in
    let h2 = c.wipe.ensures.honest ∙ h1 in
    let h3 = c.write_first.ensures.honest ∙ h2 in
    let p0 = g.D.Disk.past c.args.disk.now in
    let p1 = g.D.Disk.past c.unformat.new.disk in
    let p2 = g.D.Disk.past c.wipe.new.disk in
    let p3 = g.D.Disk.past c.write_first.new.disk in
    let p4 = g.D.Disk.past c.write_run_synced.new.disk in
    let some = λ (P : _ → Type 0) (o : IfSome c.in_ok-write_first.field-0 P). subst (λ x. IfSome x P) c.in-Some.is o in
    let run = zero_run p1 p2 p3 (c.wipe.ensures.during h1 (c.in_ok-unformat.ensures.ok h)) (c.write_first.ensures.during h2) in
    let zero = at_end p1 p3 IsZeroed run (seen p3) (g.met.D.Disk.seen_is_image c.write_first.new.disk h3) in
    let w = c.in_ok-wipe.ensures.ok h1 (c.in_ok-unformat.ensures.ok h (seen p1) (g.met.D.Disk.seen_is_image c.unformat.new.disk h1)) in
    let newest = some _ c.in_ok-write_first.ensures.ok h2 (wiped_none c.args.layout (seen p2) w) (wiped_above c.args.layout (seen p2) w) in
    made_all c.args.layout p1 p3 p0 p4 c.args.body.now c.requires.empty newest zero
    (subst (λ (s : Sector). IsLaid (seen p3) 0 (s ∷ []) (seen p4)) c.superblock.ensures (c.in_ok-write_run_synced.ensures.ok h3)) (c.in_ok-write_run_synced.ensures.settled h3)

pub returns-clause-all_calls : goal.returns-clause-all_calls
returns-clause-all_calls g c =
    let calls = g.D.Disk.calls in
    let first = calls c.args.disk.now in
    let log = c.args.layout.log_sectors + 2 in
    let body = snapshot_calls empty_state in
    let spelled : sector_count (length c.args.body.now) + 3 ≡ body = ap (λ (b : List ℕ). sector_count (length b) + 3) c.requires.empty in
    let laid : calls c.write_first.new.disk ≡ more (calls c.wipe.new.disk) (sector_count (length c.args.body.now) + 3) =
    subst (λ x. IfSome x (λ y. calls c.write_first.new.disk ≡ more (calls c.wipe.new.disk) (sector_count (length c.args.body.now) + 3))) c.in-Some.is c.in_ok-write_first.ensures.all_calls in
    let wiped_by = c.in_ok-wipe.ensures.all_calls ∙ ap (λ n. more n log) c.in_ok-unformat.ensures.all_calls ∙ more-more first 2 log in
    c.in_ok-write_run_synced.ensures.all_calls
    ∙ ap (λ n. more n 2) (laid ∙ ap (more (calls c.wipe.new.disk)) spelled ∙ ap (λ n. more n body) wiped_by ∙ more-more first (2 + log) body) ∙ more-more first (2 + log + body) 2
