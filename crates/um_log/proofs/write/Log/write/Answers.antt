use Rattle.std.specs.Prelude.{◌≡◌, ◌+◌, ◌++◌, ◌∷◌, [], ℕ, length}
use Rattle.std.proofs.Common.{subst, arith}
use Rattle.um_log.specs.Ahead.{GoesOnAhead}
use Rattle.um_log.specs.Appending.{record_run}
use Rattle.um_model.specs.Store.{part_count}
use Rattle.um_log.proofs.Appending.{record_count, before_elsewhere, during_elsewhere, read_elsewhere}
use Rattle.um_log.proofs.Behind.{still_more, written_some, written_ahead}
use Rattle.um_log.proofs.write.Log.write.Goals as goal

pub returns-then-not-fits-clause-during : goal.returns-then-not-fits-clause-during
returns-then-not-fits-clause-during g c h slot newest body records more ahead = still_more ahead c.args.bytes.now

pub returns-then-not-fits-clause-elsewhere : goal.returns-then-not-fits-clause-elsewhere
returns-then-not-fits-clause-elsewhere g c h = before_elsewhere (g.D.Disk.past c.args.disk.now) c.args.self.now.next (part_count (length c.args.bytes.now))

pub returns-in_err-write_record-clause-during : goal.returns-in_err-write_record-clause-during
returns-in_err-write_record-clause-during g c h slot newest body records more ahead =
    let log = c.args.self.now in
    let room = c.fits.ensures.0 c.if-not-fits.false in
    written_some log.layout log.generation log.number log.next c.args.bytes.now (omega (arith, c.fits-self)) room.some room.short room.within slot newest ahead.counts body records more
    (g.D.Disk.past c.args.disk.now) (g.D.Disk.past c.write_record.new.disk) ahead (c.write_record.ensures.during h)

pub returns-in_err-write_record-clause-elsewhere : goal.returns-in_err-write_record-clause-elsewhere
returns-in_err-write_record-clause-elsewhere g c h =
    let log = c.args.self.now in
    during_elsewhere (g.D.Disk.past c.args.disk.now) (g.D.Disk.past c.write_record.new.disk) log.next (part_count (length c.args.bytes.now)) (record_run log.generation log.number c.args.bytes.now)
    (record_count log.generation log.number c.args.bytes.now) (c.write_record.ensures.during h)

pub returns-clause-during : goal.returns-clause-during
returns-clause-during g c h slot newest body records more ahead =
    let log = c.args.self.now in
    let room = c.fits.ensures.0 c.if-not-fits.false in
    written_some log.layout log.generation log.number log.next c.args.bytes.now (omega (arith, c.fits-self)) room.some room.short room.within slot newest ahead.counts body records more
    (g.D.Disk.past c.args.disk.now) (g.D.Disk.past c.write_record.new.disk) ahead (c.write_record.ensures.during h)

pub returns-clause-elsewhere : goal.returns-clause-elsewhere
returns-clause-elsewhere g c h =
    let log = c.args.self.now in
    during_elsewhere (g.D.Disk.past c.args.disk.now) (g.D.Disk.past c.write_record.new.disk) log.next (part_count (length c.args.bytes.now)) (record_run log.generation log.number c.args.bytes.now)
    (record_count log.generation log.number c.args.bytes.now) (c.write_record.ensures.during h)

pub returns-clause-ok : goal.returns-clause-ok
returns-clause-ok g c is_ok h slot newest body records more ahead =
    let log = c.args.self.now in
    let new = g.D.Disk.past c.write_record.new.disk in
    let room = c.fits.ensures.0 c.if-not-fits.false in
    let size : log.next + part_count (length c.args.bytes.now) ≡ log.next + c.div_ceil.result = omega (arith, c.div_ceil.ensures) in
    subst (λ (n : ℕ). GoesOnAhead log.layout new slot newest body records (more ++ c.args.bytes.now ∷ []) log.generation (log.number + 1) n) size
    (written_ahead log.layout log.generation log.number log.next c.args.bytes.now (omega (arith, c.fits-self)) room.some room.short room.within slot newest ahead.counts body records more
    (g.D.Disk.past c.args.disk.now) new ahead (c.write_record.ensures.during h) (c.in_ok-write_record.ensures.ok h))

pub returns-clause-read : goal.returns-clause-read
returns-clause-read g c is_ok h =
    let log = c.args.self.now in
    read_elsewhere (g.D.Disk.past c.args.disk.now) (g.D.Disk.past c.write_record.new.disk) log.next (part_count (length c.args.bytes.now)) (record_run log.generation log.number c.args.bytes.now)
    (record_count log.generation log.number c.args.bytes.now) (c.in_ok-write_record.ensures.ok h)
