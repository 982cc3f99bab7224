use Rattle.std.proofs.Common.{◌∙◌}
use Rattle.std.specs.Prelude.{IsTrue}
use Rattle.um_laws.proofs.DiskLaws.{settled_at_ok}
use Rattle.um_sector.proofs.RunLaws.{run_sync, from_settled}
use Rattle.um_sector.proofs.run.write_run_synced.Goals as goal

pub returns-clause-during : goal.returns-clause-during
returns-clause-during g c h =
    run_sync c.sync.result (g.D.Disk.past c.args.disk.now) (g.D.Disk.past c.write_run.new.disk) (g.D.Disk.past c.sync.new.self) c.args.at c.args.run.now
    (g.met.D.Disk.seen_is_image c.args.disk.now h) (c.in_ok-write_run.ensures.ok h) (c.write_run.ensures.during h) (c.sync.ensures.past (c.write_run.ensures.honest ∙ h))

pub returns-clause-settled_during : goal.returns-clause-settled_during
returns-clause-settled_during g c h settled =
    from_settled (g.D.Disk.past c.args.disk.now) (g.D.Disk.past c.sync.new.self) c.args.at c.args.run.now settled (returns-clause-during g c h)

pub returns-in_err-write_run-clause-settled_during : goal.returns-in_err-write_run-clause-settled_during
returns-in_err-write_run-clause-settled_during g c h settled =
    from_settled (g.D.Disk.past c.args.disk.now) (g.D.Disk.past c.write_run.new.disk) c.args.at c.args.run.now settled (c.write_run.ensures.during h)

pub returns-clause-settled : goal.returns-clause-settled
returns-clause-settled g c =
    settled_at_ok c.sync.result (IsTrue (g.D.Disk.honest c.args.disk.now)) (g.D.Disk.past c.write_run.new.disk) (g.D.Disk.past c.sync.new.self)
    (λ h. c.sync.ensures.past (c.write_run.ensures.honest ∙ h))
