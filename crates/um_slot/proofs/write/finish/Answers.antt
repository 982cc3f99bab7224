use Rattle.std.proofs.Common.{ℕ, [], inr, sym, subst, arith}
use Rattle.um_model.specs.Disk.{seen, During}
use Rattle.um_model.specs.Store.{current, other, log_start, sector_count, records_of, all_records, IsLogEnd, GoesOn}
use Rattle.um_laws.proofs.StoreLaws.{behind_slot}
use Rattle.um_model.specs.declared.layout.Slot.{Slot}
use Rattle.um_slot.specs.Snapshots.{IsWritten, IsSnapshot, MaybeSnapshot, AfterSeal, HasNewest}
use Rattle.um_slot.proofs.Snapshots.{none_beside, parts_other, during_other, goes_on_other, parts_newest, during_newest, renewed_newest, goes_on_newest}
use Rattle.um_slot.proofs.write.finish.Goals as goal

pub returns-then-home-eq18446744073709551615-clause-during : goal.returns-then-home-eq18446744073709551615-clause-during
returns-then-home-eq18446744073709551615-clause-during g c h before body long all stores =
    parts_other (none_beside c.args.layout (g.D.Disk.past c.args.disk.now) c.args.home.slot) stores body

pub returns-then-size-body_limit-clause-during : goal.returns-then-size-body_limit-clause-during
returns-then-size-body_limit-clause-during g c h before body long all stores =
    parts_other (none_beside c.args.layout (g.D.Disk.past c.args.disk.now) c.args.home.slot) stores body

pub returns-then-home-eq18446744073709551615-clause-during_newest : goal.returns-then-home-eq18446744073709551615-clause-during_newest
returns-then-home-eq18446744073709551615-clause-during_newest g c h format newest before body above long all have =
    parts_newest (none_beside c.args.layout (g.D.Disk.past c.args.disk.now) c.args.home.slot) have body

pub returns-then-size-body_limit-clause-during_newest : goal.returns-then-size-body_limit-clause-during_newest
returns-then-size-body_limit-clause-during_newest g c h format newest before body above long all have =
    parts_newest (none_beside c.args.layout (g.D.Disk.past c.args.disk.now) c.args.home.slot) have body

pub returns-in_err-seal-clause-during : goal.returns-in_err-seal-clause-during
returns-in_err-seal-clause-during g c h before body long all stores =
    let layout = c.args.layout in
    let home = c.args.home in
    let to = c.next-to.result in
    let turned = c.next-to.ensures in
    let old = g.D.Disk.past c.args.disk.now in
    let new = g.D.Disk.past c.seal.new.disk in
    let is = g.met.D.Disk.seen_is_image c.args.disk.now h in
    let there = subst (λ (s : Slot). IsWritten layout (seen old) s body (sector_count c.args.size)) (sym turned.0) all in
    during_other old stores (omega (arith, c.if-home-eq18446744073709551615.false)) (omega (arith, long, c.if-size-body_limit.false, c.body_limit.ensures)) is
    (subst (λ (n : ℕ). During old new (AfterSeal layout old (other home.slot) n body)) turned.1
    (subst (λ (s : Slot). During old new (AfterSeal layout old s to.generation body)) turned.0 (c.seal.ensures.during h body long there)))

pub returns-clause-during : goal.returns-clause-during
returns-clause-during g c h before body long all stores =
    let layout = c.args.layout in
    let home = c.args.home in
    let to = c.next-to.result in
    let turned = c.next-to.ensures in
    let old = g.D.Disk.past c.args.disk.now in
    let new = g.D.Disk.past c.seal.new.disk in
    let is = g.met.D.Disk.seen_is_image c.args.disk.now h in
    let there = subst (λ (s : Slot). IsWritten layout (seen old) s body (sector_count c.args.size)) (sym turned.0) all in
    during_other old stores (omega (arith, c.if-home-eq18446744073709551615.false)) (omega (arith, long, c.if-size-body_limit.false, c.body_limit.ensures)) is
    (subst (λ (n : ℕ). During old new (AfterSeal layout old (other home.slot) n body)) turned.1
    (subst (λ (s : Slot). During old new (AfterSeal layout old s to.generation body)) turned.0 (c.seal.ensures.during h body long there)))

pub returns-in_err-seal-clause-during_newest : goal.returns-in_err-seal-clause-during_newest
returns-in_err-seal-clause-during_newest g c h format newest before body above long all have =
    let layout = c.args.layout in
    let home = c.args.home in
    let to = c.next-to.result in
    let turned = c.next-to.ensures in
    let old = g.D.Disk.past c.args.disk.now in
    let new = g.D.Disk.past c.seal.new.disk in
    let is = g.met.D.Disk.seen_is_image c.args.disk.now h in
    let there = subst (λ (s : Slot). IsWritten layout (seen old) s body (sector_count c.args.size)) (sym turned.0) all in
    during_newest old above have (omega (arith, c.if-home-eq18446744073709551615.false)) (omega (arith, long, c.if-size-body_limit.false, c.body_limit.ensures)) is
    (subst (λ (n : ℕ). During old new (AfterSeal layout old (other home.slot) n body)) turned.1
    (subst (λ (s : Slot). During old new (AfterSeal layout old s to.generation body)) turned.0 (c.seal.ensures.during h body long there)))

pub returns-clause-during_newest : goal.returns-clause-during_newest
returns-clause-during_newest g c h format newest before body above long all have =
    let layout = c.args.layout in
    let home = c.args.home in
    let to = c.next-to.result in
    let turned = c.next-to.ensures in
    let old = g.D.Disk.past c.args.disk.now in
    let new = g.D.Disk.past c.seal.new.disk in
    let is = g.met.D.Disk.seen_is_image c.args.disk.now h in
    let there = subst (λ (s : Slot). IsWritten layout (seen old) s body (sector_count c.args.size)) (sym turned.0) all in
    during_newest old above have (omega (arith, c.if-home-eq18446744073709551615.false)) (omega (arith, long, c.if-size-body_limit.false, c.body_limit.ensures)) is
    (subst (λ (n : ℕ). During old new (AfterSeal layout old (other home.slot) n body)) turned.1
    (subst (λ (s : Slot). During old new (AfterSeal layout old s to.generation body)) turned.0 (c.seal.ensures.during h body long there)))

pub returns-clause-ok : goal.returns-clause-ok
returns-clause-ok g c h before body long all stores number next end =
    let layout = c.args.layout in
    let home = c.args.home in
    let to = c.next-to.result in
    let turned = c.next-to.ensures in
    let old = g.D.Disk.past c.args.disk.now in
    let new = g.D.Disk.past c.seal.new.disk in
    let is = g.met.D.Disk.seen_is_image c.args.disk.now h in
    let there = subst (λ (s : Slot). IsWritten layout (seen old) s body (sector_count c.args.size)) (sym turned.0) all in
    subst (λ (s : Slot). GoesOn layout new s to.generation body (all_records current layout to.generation (seen old)) to.generation number next) (sym turned.0)
    (subst (λ (n : ℕ). GoesOn layout new (other home.slot) n body (all_records current layout n (seen old)) n number next) (sym turned.1)
    (goes_on_other old stores (omega (arith, c.if-home-eq18446744073709551615.false)) (omega (arith, long, c.if-size-body_limit.false, c.body_limit.ensures)) is
    (subst (λ (n : ℕ). MaybeSnapshot layout (seen old) (other home.slot) n body (seen new)) turned.1
    (subst (λ (s : Slot). MaybeSnapshot layout (seen old) s to.generation body (seen new)) turned.0 (c.in_ok-seal.ensures.beside h body long there)))
    (subst (λ (n : ℕ). IsSnapshot layout (seen new) (other home.slot) n body) turned.1
    (subst (λ (s : Slot). IsSnapshot layout (seen new) s to.generation body) turned.0 (c.in_ok-seal.ensures.written h body long there)))
    (c.in_ok-seal.ensures.settled h) number next
    (subst (λ (n : ℕ). IsLogEnd layout n (seen old) (records_of current layout n (seen old)) number next) turned.1 end)))

pub returns-clause-ok_newest : goal.returns-clause-ok_newest
returns-clause-ok_newest g c h newest before body above long all have =
    let layout = c.args.layout in
    let home = c.args.home in
    let to = c.next-to.result in
    let turned = c.next-to.ensures in
    let old = g.D.Disk.past c.args.disk.now in
    let new = g.D.Disk.past c.seal.new.disk in
    let is = g.met.D.Disk.seen_is_image c.args.disk.now h in
    let there = subst (λ (s : Slot). IsWritten layout (seen old) s body (sector_count c.args.size)) (sym turned.0) all in
    subst (λ (s : Slot). GoesOn layout new s to.generation body [] to.generation 0 (log_start layout to.generation)) (sym turned.0)
    (subst (λ (n : ℕ). GoesOn layout new (other home.slot) n body [] n 0 (log_start layout n)) (sym turned.1)
    (goes_on_newest old above have (omega (arith, c.if-home-eq18446744073709551615.false)) (omega (arith, long, c.if-size-body_limit.false, c.body_limit.ensures)) is
    (subst (λ (n : ℕ). MaybeSnapshot layout (seen old) (other home.slot) n body (seen new)) turned.1
    (subst (λ (s : Slot). MaybeSnapshot layout (seen old) s to.generation body (seen new)) turned.0 (c.in_ok-seal.ensures.beside h body long there)))
    (subst (λ (n : ℕ). IsSnapshot layout (seen new) (other home.slot) n body) turned.1
    (subst (λ (s : Slot). IsSnapshot layout (seen new) s to.generation body) turned.0 (c.in_ok-seal.ensures.written h body long there)))
    (c.in_ok-seal.ensures.settled h)))

pub returns-clause-renewed : goal.returns-clause-renewed
returns-clause-renewed g c h format newest before body above long all have image at =
    let layout = c.args.layout in
    let home = c.args.home in
    let to = c.next-to.result in
    let turned = c.next-to.ensures in
    let old = g.D.Disk.past c.args.disk.now in
    let new = g.D.Disk.past c.seal.new.disk in
    let is = g.met.D.Disk.seen_is_image c.args.disk.now h in
    let there = subst (λ (s : Slot). IsWritten layout (seen old) s body (sector_count c.args.size)) (sym turned.0) all in
    subst (λ (s : Slot). HasNewest format layout s to.generation body home.generation image) (sym turned.0)
    (subst (λ (n : ℕ). HasNewest format layout (other home.slot) n body home.generation image) (sym turned.1)
    (renewed_newest old above have new (omega (arith, c.if-home-eq18446744073709551615.false)) (omega (arith, long, c.if-size-body_limit.false, c.body_limit.ensures)) is
    (subst (λ (n : ℕ). MaybeSnapshot layout (seen old) (other home.slot) n body (seen new)) turned.1
    (subst (λ (s : Slot). MaybeSnapshot layout (seen old) s to.generation body (seen new)) turned.0 (c.in_ok-seal.ensures.beside h body long there)))
    (subst (λ (n : ℕ). IsSnapshot layout (seen new) (other home.slot) n body) turned.1
    (subst (λ (s : Slot). IsSnapshot layout (seen new) s to.generation body) turned.0 (c.in_ok-seal.ensures.written h body long there)))
    (c.in_ok-seal.ensures.settled h) image at))

pub returns-clause-log : goal.returns-clause-log
returns-clause-log g c h j low =
    let layout = c.args.layout in
    let to = c.next-to.result in
    let behind = behind_slot layout to.slot j low in
    c.in_ok-seal.ensures.same h j (inr (omega (arith, behind, layout.slot_least)))
