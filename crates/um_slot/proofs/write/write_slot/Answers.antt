use Rattle.std.proofs.Common.{◌≡◌, ◌+◌, ◌∙◌, min, ℕ, length, refl, sym, subst, arith}
use Rattle.um_model.specs.Disk.{seen, During}
use Rattle.um_model.specs.Store.{other, sector_count}
use Rattle.um_model.specs.declared.layout.Slot.{Slot}
use Rattle.um_slot.specs.Snapshots.{IsWritten, IsSnapshot, MaybeSnapshot, AfterSeal}
use Rattle.um_slot.proofs.Writing.{parts_maybe, both_maybe, both_beside, none_written}
use Rattle.um_slot.proofs.write.write_slot.Goals as goal

pub returns-in_err-write_next-clause-during : goal.returns-in_err-write_next-clause-during
returns-in_err-write_next-clause-during g c h =
    parts_maybe c.args.layout c.args.last.slot (c.args.last.generation + 1) c.args.body.now (g.D.Disk.past c.args.disk.now) (g.D.Disk.past c.write_next.new.disk) (c.write_next.ensures.during h)

pub returns-in_err-seal-clause-during : goal.returns-in_err-seal-clause-during
returns-in_err-seal-clause-during g c h =
    let layout = c.args.layout in
    let last = c.args.last in
    let body = c.args.body.now in
    let to = c.next-to.result in
    let turned = c.next-to.ensures in
    let old = g.D.Disk.past c.args.disk.now in
    let mid = g.D.Disk.past c.write_next.new.disk in
    let new = g.D.Disk.past c.seal.new.disk in
    let h1 = c.write_next.ensures.honest ∙ h in
    let full : min (0 + 18446744073709551615) (sector_count (length body)) ≡ sector_count (length body) = omega (arith, c.requires.fits, layout.slot_most) in
    let whole : IsWritten layout (seen mid) (other last.slot) body (sector_count (length body)) =
    subst (IsWritten layout (seen mid) (other last.slot) body) full (c.in_ok-write_next.ensures.written h (none_written layout (seen old) (other last.slot) body)) in
    let there = subst (λ (s : Slot). IsWritten layout (seen mid) s body (sector_count (length body))) (sym turned.0) whole in
    both_maybe layout last.slot (last.generation + 1) body old mid new (g.met.D.Disk.seen_is_image c.write_next.new.disk h1) (c.write_next.ensures.during h)
    (subst (λ (n : ℕ). During mid new (AfterSeal layout mid (other last.slot) n body)) turned.1
    (subst (λ (s : Slot). During mid new (AfterSeal layout mid s to.generation body)) turned.0 (c.seal.ensures.during h1 body refl there)))

pub returns-clause-during : goal.returns-clause-during
returns-clause-during g c h =
    let layout = c.args.layout in
    let last = c.args.last in
    let body = c.args.body.now in
    let to = c.next-to.result in
    let turned = c.next-to.ensures in
    let old = g.D.Disk.past c.args.disk.now in
    let mid = g.D.Disk.past c.write_next.new.disk in
    let new = g.D.Disk.past c.seal.new.disk in
    let h1 = c.write_next.ensures.honest ∙ h in
    let full : min (0 + 18446744073709551615) (sector_count (length body)) ≡ sector_count (length body) = omega (arith, c.requires.fits, layout.slot_most) in
    let whole : IsWritten layout (seen mid) (other last.slot) body (sector_count (length body)) =
    subst (IsWritten layout (seen mid) (other last.slot) body) full (c.in_ok-write_next.ensures.written h (none_written layout (seen old) (other last.slot) body)) in
    let there = subst (λ (s : Slot). IsWritten layout (seen mid) s body (sector_count (length body))) (sym turned.0) whole in
    both_maybe layout last.slot (last.generation + 1) body old mid new (g.met.D.Disk.seen_is_image c.write_next.new.disk h1) (c.write_next.ensures.during h)
    (subst (λ (n : ℕ). During mid new (AfterSeal layout mid (other last.slot) n body)) turned.1
    (subst (λ (s : Slot). During mid new (AfterSeal layout mid s to.generation body)) turned.0 (c.seal.ensures.during h1 body refl there)))

pub returns-clause-written : goal.returns-clause-written
returns-clause-written g c h =
    let layout = c.args.layout in
    let last = c.args.last in
    let body = c.args.body.now in
    let to = c.next-to.result in
    let turned = c.next-to.ensures in
    let old = g.D.Disk.past c.args.disk.now in
    let mid = g.D.Disk.past c.write_next.new.disk in
    let new = g.D.Disk.past c.seal.new.disk in
    let h1 = c.write_next.ensures.honest ∙ h in
    let full : min (0 + 18446744073709551615) (sector_count (length body)) ≡ sector_count (length body) = omega (arith, c.requires.fits, layout.slot_most) in
    let whole : IsWritten layout (seen mid) (other last.slot) body (sector_count (length body)) =
    subst (IsWritten layout (seen mid) (other last.slot) body) full (c.in_ok-write_next.ensures.written h (none_written layout (seen old) (other last.slot) body)) in
    let there = subst (λ (s : Slot). IsWritten layout (seen mid) s body (sector_count (length body))) (sym turned.0) whole in
    subst (λ (n : ℕ). IsSnapshot layout (seen new) (other last.slot) n body) turned.1
    (subst (λ (s : Slot). IsSnapshot layout (seen new) s to.generation body) turned.0 (c.in_ok-seal.ensures.written h1 body refl there))

pub returns-clause-beside : goal.returns-clause-beside
returns-clause-beside g c h =
    let layout = c.args.layout in
    let last = c.args.last in
    let body = c.args.body.now in
    let to = c.next-to.result in
    let turned = c.next-to.ensures in
    let old = g.D.Disk.past c.args.disk.now in
    let mid = g.D.Disk.past c.write_next.new.disk in
    let new = g.D.Disk.past c.seal.new.disk in
    let h1 = c.write_next.ensures.honest ∙ h in
    let full : min (0 + 18446744073709551615) (sector_count (length body)) ≡ sector_count (length body) = omega (arith, c.requires.fits, layout.slot_most) in
    let whole : IsWritten layout (seen mid) (other last.slot) body (sector_count (length body)) =
    subst (IsWritten layout (seen mid) (other last.slot) body) full (c.in_ok-write_next.ensures.written h (none_written layout (seen old) (other last.slot) body)) in
    let there = subst (λ (s : Slot). IsWritten layout (seen mid) s body (sector_count (length body))) (sym turned.0) whole in
    both_beside layout last.slot (last.generation + 1) body (seen old) (seen mid) (seen new) (c.in_ok-write_next.ensures.beside h)
    (subst (λ (n : ℕ). MaybeSnapshot layout (seen mid) (other last.slot) n body (seen new)) turned.1
    (subst (λ (s : Slot). MaybeSnapshot layout (seen mid) s to.generation body (seen new)) turned.0 (c.in_ok-seal.ensures.beside h1 body refl there)))
