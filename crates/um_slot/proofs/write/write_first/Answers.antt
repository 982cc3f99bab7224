use Rattle.std.proofs.Common.{arith}
use Rattle.um_model.specs.Disk.{seen}
use Rattle.um_laws.proofs.DiskLaws.{started}
use Rattle.um_slot.proofs.Snapshots.{first_newest, kept_above}
use Rattle.um_slot.proofs.Writing.{first_kept}
use Rattle.um_slot.proofs.write.write_first.Goals as goal

pub returns-then-body-body_limit-clause-during : goal.returns-then-body-body_limit-clause-during
returns-then-body-body_limit-clause-during g c h first all = started (g.D.Disk.past c.args.disk.now) _ all

pub returns-in_err-home-clause-during : goal.returns-in_err-home-clause-during
returns-in_err-home-clause-during g c h first all =
    first_kept c.args.layout (g.D.Disk.past c.args.disk.now) (g.D.Disk.past c.write_slot.new.disk) _ _ c.args.body.now first all (c.write_slot.ensures.during h)

pub returns-clause-during : goal.returns-clause-during
returns-clause-during g c h first all =
    first_kept c.args.layout (g.D.Disk.past c.args.disk.now) (g.D.Disk.past c.write_slot.new.disk) _ _ c.args.body.now first all (c.write_slot.ensures.during h)

pub returns-clause-ok : goal.returns-clause-ok
returns-clause-ok g c h nothing none =
    let image = seen (g.D.Disk.past c.write_slot.new.disk) in
    let beside = c.in_ok-home.ensures.beside h in
    let newest = first_newest nothing (omega arith) (omega arith) (omega (arith, c.if-body-body_limit.false, c.body_limit.ensures)) beside (c.in_ok-home.ensures.written h) in
    (newest, kept_above beside none)
