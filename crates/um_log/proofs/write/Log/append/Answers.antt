use Rattle.std.specs.Prelude.{◌≡◌, ◌+◌, ◌^◌, ◌<◌, ◌++◌, ◌∷◌, [], ℕ, length}
use Rattle.std.proofs.Common.{subst, arith}
use Rattle.um_log.specs.Appending.{record_run}
use Rattle.um_model.specs.Store.{part_count, GoesOn}
use Rattle.um_log.proofs.Appending.{record_count, before_elsewhere, during_elsewhere, read_elsewhere}
use Rattle.um_log.proofs.Appending.{before_record, during_record, goes_on_record}
use Rattle.um_log.proofs.write.Log.append.Goals as goal

pub returns-then-not-fits-clause-during : goal.returns-then-not-fits-clause-during
returns-then-not-fits-clause-during g c h slot newest body records ready = before_record (g.D.Disk.past c.args.disk.now) c.args.bytes.now ready

pub returns-then-not-fits-clause-elsewhere : goal.returns-then-not-fits-clause-elsewhere
returns-then-not-fits-clause-elsewhere g c h = before_elsewhere (g.D.Disk.past c.args.disk.now) c.args.self.now.next (part_count (length c.args.bytes.now))

pub returns-in_err-write_record_synced-clause-during : goal.returns-in_err-write_record_synced-clause-during
returns-in_err-write_record_synced-clause-during g c h slot newest body records ready =
    let log = c.args.self.now in
    let old = g.D.Disk.past c.args.disk.now in
    let new = g.D.Disk.past c.write_record_synced.new.disk in
    let last : log.generation < 2 ^ 64 = omega (arith, c.fits-self) in
    let room = c.fits.ensures.0 c.if-not-fits.false in
    during_record log.layout log.generation log.number log.next c.args.bytes.now last room.some room.short room.within old new slot newest body records ready
    (c.write_record_synced.ensures.during h)

pub returns-in_err-write_record_synced-clause-elsewhere : goal.returns-in_err-write_record_synced-clause-elsewhere
returns-in_err-write_record_synced-clause-elsewhere g c h =
    let old = g.D.Disk.past c.args.disk.now in
    let new = g.D.Disk.past c.write_record_synced.new.disk in
    during_elsewhere old new c.args.self.now.next (part_count (length c.args.bytes.now)) (record_run c.args.self.now.generation c.args.self.now.number c.args.bytes.now) (record_count c.args.self.now.generation c.args.self.now.number c.args.bytes.now)
    (c.write_record_synced.ensures.during h)

pub returns-clause-during : goal.returns-clause-during
returns-clause-during g c h slot newest body records ready =
    let log = c.args.self.now in
    let old = g.D.Disk.past c.args.disk.now in
    let new = g.D.Disk.past c.write_record_synced.new.disk in
    let last : log.generation < 2 ^ 64 = omega (arith, c.fits-self) in
    let room = c.fits.ensures.0 c.if-not-fits.false in
    during_record log.layout log.generation log.number log.next c.args.bytes.now last room.some room.short room.within old new slot newest body records ready
    (c.write_record_synced.ensures.during h)

pub returns-clause-elsewhere : goal.returns-clause-elsewhere
returns-clause-elsewhere g c h =
    let old = g.D.Disk.past c.args.disk.now in
    let new = g.D.Disk.past c.write_record_synced.new.disk in
    during_elsewhere old new c.args.self.now.next (part_count (length c.args.bytes.now)) (record_run c.args.self.now.generation c.args.self.now.number c.args.bytes.now) (record_count c.args.self.now.generation c.args.self.now.number c.args.bytes.now)
    (c.write_record_synced.ensures.during h)

pub returns-clause-ok : goal.returns-clause-ok
returns-clause-ok g c is_ok h slot newest body records ready =
    let log = c.args.self.now in
    let old = g.D.Disk.past c.args.disk.now in
    let new = g.D.Disk.past c.write_record_synced.new.disk in
    let is = g.met.D.Disk.seen_is_image c.args.disk.now h in
    let last : log.generation < 2 ^ 64 = omega (arith, c.fits-self) in
    let room = c.fits.ensures.0 c.if-not-fits.false in
    let size : log.next + part_count (length c.args.bytes.now) ≡ log.next + c.div_ceil.result = omega (arith, c.div_ceil.ensures) in
    subst (λ (n : ℕ). GoesOn log.layout new slot newest body (records ++ c.args.bytes.now ∷ []) log.generation (log.number + 1) n) size
    (goes_on_record log.layout log.generation log.number log.next c.args.bytes.now last room.some room.short room.within old new slot newest body records ready is
    (c.in_ok-write_record_synced.ensures.ok h) (c.in_ok-write_record_synced.ensures.settled h))

pub returns-clause-read : goal.returns-clause-read
returns-clause-read g c is_ok h =
    let log = c.args.self.now in
    read_elsewhere (g.D.Disk.past c.args.disk.now) (g.D.Disk.past c.write_record_synced.new.disk) log.next (part_count (length c.args.bytes.now)) (record_run log.generation log.number c.args.bytes.now)
    (record_count log.generation log.number c.args.bytes.now) (c.in_ok-write_record_synced.ensures.ok h)
