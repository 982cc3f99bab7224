use Rattle.um_laws.proofs.DiskLaws.{settled_after_sync}
use Rattle.std.proofs.Common.{sym, ap, subst}
use Rattle.um_model.specs.Disk.{seen, IsSettled}
use Rattle.um_sector.proofs.RunLaws.{synced_syncs}
use Rattle.um_log.proofs.Behind.{flush_some, flushed}
use Rattle.um_log.proofs.write.Log.flush.Goals as goal

pub returns-in_err-sync-clause-during : goal.returns-in_err-sync-clause-during
returns-in_err-sync-clause-during g c h slot newest body records more ahead = flush_some ahead c.sync.result (g.D.Disk.past c.sync.new.self) (c.sync.ensures.past h)

pub returns-clause-during : goal.returns-clause-during
returns-clause-during g c h slot newest body records more ahead = flush_some ahead c.sync.result (g.D.Disk.past c.sync.new.self) (c.sync.ensures.past h)

pub returns-clause-ok : goal.returns-clause-ok
returns-clause-ok g c h slot newest body records more ahead = flushed ahead (g.D.Disk.past c.sync.new.self) (c.in_ok-sync.ensures.past h)

pub returns-clause-settled : goal.returns-clause-settled
returns-clause-settled g c h = subst IsSettled (sym (c.in_ok-sync.ensures.past h)) (settled_after_sync (g.D.Disk.past c.args.disk.now))

pub returns-clause-syncs : goal.returns-clause-syncs
returns-clause-syncs g c h = synced_syncs (g.D.Disk.past c.args.disk.now) (g.D.Disk.past c.sync.new.self) (c.in_ok-sync.ensures.past h)

pub returns-clause-read : goal.returns-clause-read
returns-clause-read g c h = ap seen (c.in_ok-sync.ensures.past h)
