use Rattle.std.proofs.Common.{◌∙◌}
use Rattle.std.specs.Prelude.{IsTrue}
use Rattle.um_laws.proofs.DiskLaws.{settled_at_ok}
use Rattle.um_sector.proofs.RunLaws.{run_sync}
use Rattle.um_log.specs.Appending.{record_run}
use Rattle.um_log.proofs.sectors.write_record_synced.Goals as goal

pub returns-clause-during : goal.returns-clause-during
returns-clause-during g c h =
    run_sync c.sync.result (g.D.Disk.past c.args.disk.now) (g.D.Disk.past c.write_record.new.disk) (g.D.Disk.past c.sync.new.self) c.args.at (record_run c.args.generation c.args.number c.args.bytes.now)
    (g.met.D.Disk.seen_is_image c.args.disk.now h) (c.in_ok-write_record.ensures.ok h) (c.write_record.ensures.during h) (c.sync.ensures.past (c.write_record.ensures.honest ∙ h))

pub returns-clause-settled : goal.returns-clause-settled
returns-clause-settled g c =
    settled_at_ok c.sync.result (IsTrue (g.D.Disk.honest c.args.disk.now)) (g.D.Disk.past c.write_record.new.disk) (g.D.Disk.past c.sync.new.self)
    (λ h. c.sync.ensures.past (c.write_record.ensures.honest ∙ h))
