use Rattle.std.proofs.Common.{◌≡◌, ◌∙◌, ◌+◌, min, length, refl, subst, arith}
use Rattle.um_keeper.proofs.Aside.{fewer_written, low_written}
use Rattle.um_keeper.proofs.Judged.{renewing_by}
use Rattle.um_model.specs.Disk.{seen}
use Rattle.um_model.specs.Store.{other, sector_count}
use Rattle.um_slot.specs.Snapshots.{IsWritten}
use Rattle.um_keeper.proofs.Underway.{still_begun, part_begun, underway_beside, then_settled}
use Rattle.um_keeper.proofs.step.advance.Goals as goal

pub returns-then-left-eq0-clause-during : goal.returns-then-left-eq0-clause-during
returns-then-left-eq0-clause-during g c h s taken state under = still_begun under

pub returns-in_err-write_part-clause-during : goal.returns-in_err-write_part-clause-during
returns-in_err-write_part-clause-during g c h s taken state under = part_begun under (g.met.D.Disk.seen_is_image c.args.disk.now h) (c.write_part.ensures.during h)

pub returns-then-count-left-clause-during : goal.returns-then-count-left-clause-during
returns-then-count-left-clause-during g c h s taken state under = part_begun under (g.met.D.Disk.seen_is_image c.args.disk.now h) (c.write_part.ensures.during h)

pub returns-then-count-left-clause-under : goal.returns-then-count-left-clause-under
returns-then-count-left-clause-under g c h s taken state under =
    let a = c.args.ahead.now in
    let mid = g.D.Disk.past c.write_part.new.disk in
    let end : min (a.aside.written + c.args.count) (sector_count (length a.aside.body.items)) ≡ a.aside.written + c.args.count = omega (arith, c.if-count-left.true, c.left-left.ensures) in
    underway_beside under (a.aside.written + c.args.count) (g.met.D.Disk.seen_is_image c.args.disk.now h) (c.write_part.ensures.during h) (c.in_ok-write_part.ensures.beside h)
    (subst (IsWritten a.log.layout (seen mid) (other a.home.slot) a.aside.body.items) end (c.in_ok-write_part.ensures.stands h under.written_is))

-- ---- the last part, and its end

pub returns-in_err-complete-clause-during : goal.returns-in_err-complete-clause-during
returns-in_err-complete-clause-during g c h s taken state under =
    let a = c.args.ahead.now in
    let mid = g.D.Disk.past c.write_part.new.disk in
    let h1 = c.write_part.ensures.honest ∙ h in
    let is = g.met.D.Disk.seen_is_image c.args.disk.now h in
    let least : min (a.aside.written + c.args.count) (sector_count (length a.aside.body.items)) ≡ sector_count (length a.aside.body.items) = omega (arith, c.if-count-left.false, c.left-left.ensures) in
    let whole = subst (IsWritten a.log.layout (seen mid) (other a.home.slot) a.aside.body.items) least (c.in_ok-write_part.ensures.stands h under.written_is) in
    let near = underway_beside under a.aside.written is (c.write_part.ensures.during h) (c.in_ok-write_part.ensures.beside h) (fewer_written a.log.layout (seen mid) (other a.home.slot) a.aside.body.items (low_written a.aside.body.items a.aside.written a.aside.going a.aside.none) whole) in
    then_settled refl (part_begun under is (c.write_part.ensures.during h)) (c.complete.ensures.during h1 whole s taken state near)

pub returns-clause-during : goal.returns-clause-during
returns-clause-during g c h s taken state under =
    let a = c.args.ahead.now in
    let mid = g.D.Disk.past c.write_part.new.disk in
    let h1 = c.write_part.ensures.honest ∙ h in
    let is = g.met.D.Disk.seen_is_image c.args.disk.now h in
    let least : min (a.aside.written + c.args.count) (sector_count (length a.aside.body.items)) ≡ sector_count (length a.aside.body.items) = omega (arith, c.if-count-left.false, c.left-left.ensures) in
    let whole = subst (IsWritten a.log.layout (seen mid) (other a.home.slot) a.aside.body.items) least (c.in_ok-write_part.ensures.stands h under.written_is) in
    let near = underway_beside under a.aside.written is (c.write_part.ensures.during h) (c.in_ok-write_part.ensures.beside h) (fewer_written a.log.layout (seen mid) (other a.home.slot) a.aside.body.items (low_written a.aside.body.items a.aside.written a.aside.going a.aside.none) whole) in
    then_settled refl (part_begun under is (c.write_part.ensures.during h)) (c.complete.ensures.during h1 whole s taken state near)

pub returns-clause-under : goal.returns-clause-under
returns-clause-under g c h s taken state under =
    let a = c.args.ahead.now in
    let mid = g.D.Disk.past c.write_part.new.disk in
    let h1 = c.write_part.ensures.honest ∙ h in
    let is = g.met.D.Disk.seen_is_image c.args.disk.now h in
    let least : min (a.aside.written + c.args.count) (sector_count (length a.aside.body.items)) ≡ sector_count (length a.aside.body.items) = omega (arith, c.if-count-left.false, c.left-left.ensures) in
    let whole = subst (IsWritten a.log.layout (seen mid) (other a.home.slot) a.aside.body.items) least (c.in_ok-write_part.ensures.stands h under.written_is) in
    let near = underway_beside under a.aside.written is (c.write_part.ensures.during h) (c.in_ok-write_part.ensures.beside h) (fewer_written a.log.layout (seen mid) (other a.home.slot) a.aside.body.items (low_written a.aside.body.items a.aside.written a.aside.going a.aside.none) whole) in
    c.in_ok-complete.ensures.under h1 whole s taken state near

-- ---- one is under way

pub complete-requires : goal.complete-requires
complete-requires g c = record { renewing = renewing_by c.args.ahead.now (λ zero_is. c.if-left-eq0.false (c.left-left.ensures ∙ zero_is)) }
