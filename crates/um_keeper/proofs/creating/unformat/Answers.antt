use Rattle.std.proofs.Common.{◌∙◌, ap}
use Rattle.um_model.specs.Disk.{seen, Past}
use Rattle.um_laws.proofs.DiskLaws.{with_same}
use Rattle.um_keeper.specs.Creating.{blank}
use Rattle.um_keeper.proofs.Results.{err_from}
use Rattle.um_keeper.proofs.Wiping.{unformat_write, unformat_sync, wrote_count, synced_count, failed_count, zeroed_ok}
use Rattle.um_keeper.proofs.creating.unformat.Goals as goal

pub returns-in_err-write-clause-during : goal.returns-in_err-write-clause-during
returns-in_err-write-clause-during g c h = unformat_write c.write.result (g.D.Disk.past c.args.disk.now) (g.D.Disk.past c.write.new.self) (c.write.ensures.past h)

pub returns-clause-during : goal.returns-clause-during
returns-clause-during g c h =
    unformat_sync c.sync.result (g.D.Disk.past c.args.disk.now) (g.D.Disk.past c.write.new.self) (g.D.Disk.past c.sync.new.self)
    (unformat_write c.write.result (g.D.Disk.past c.args.disk.now) (g.D.Disk.past c.write.new.self) (c.write.ensures.past h))
    (ap (λ (p : Past). seen p 0) (c.in_ok-write.ensures.past h) ∙ with_same (seen (g.D.Disk.past c.args.disk.now)) 0 blank)
    (c.sync.ensures.past (c.write.ensures.honest ∙ h))

pub returns-in_err-write-clause-unsynced : goal.returns-in_err-write-clause-unsynced
returns-in_err-write-clause-unsynced g c =
    err_from c.from_residual.result (λ h. wrote_count c.write.result (g.D.Disk.past c.args.disk.now) 0 blank (g.D.Disk.past c.write.new.self) (c.write.ensures.past h))

pub returns-clause-ok : goal.returns-clause-ok
returns-clause-ok g c =
    zeroed_ok c.sync.result _ (g.D.Disk.past c.write.new.self) (g.D.Disk.past c.sync.new.self) (λ h. c.sync.ensures.past (c.write.ensures.honest ∙ h))
    (λ h. ap (λ (p : Past). seen p 0) (c.in_ok-write.ensures.past h) ∙ with_same (seen (g.D.Disk.past c.args.disk.now)) 0 blank)

pub returns-clause-first : goal.returns-clause-first
returns-clause-first g c =
    synced_count c.sync.result _ (g.D.Disk.past c.args.disk.now) (g.D.Disk.past c.write.new.self) (g.D.Disk.past c.sync.new.self) (λ h. c.sync.ensures.past (c.write.ensures.honest ∙ h))
    (λ h. wrote_count c.write.result (g.D.Disk.past c.args.disk.now) 0 blank (g.D.Disk.past c.write.new.self) (c.write.ensures.past h))

pub returns-clause-unsynced : goal.returns-clause-unsynced
returns-clause-unsynced g c =
    failed_count c.sync.result _ (g.D.Disk.past c.args.disk.now) (g.D.Disk.past c.write.new.self) (g.D.Disk.past c.sync.new.self) (λ h. c.sync.ensures.past (c.write.ensures.honest ∙ h))
    (λ h. wrote_count c.write.result (g.D.Disk.past c.args.disk.now) 0 blank (g.D.Disk.past c.write.new.self) (c.write.ensures.past h))
