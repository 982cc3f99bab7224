use Rattle.std.proofs.Common.{◌∷◌, [], subst}
use Rattle.um_model.specs.Disk.{Sector, During, seen}
use Rattle.um_model.specs.declared.layout.Format.{Format}
use Rattle.um_sector.specs.Runs.{IsLaid, AfterRun}
use Rattle.um_slot.specs.Snapshots.{HasNewest}
use Rattle.um_keeper.proofs.Reopening.{rewrite_during, rewrite_ok, rewrite_still}
use Rattle.um_keeper.proofs.opening.rewrite.Goals as goal

pub returns-in-Two-clause-during : goal.returns-in-Two-clause-during
returns-in-Two-clause-during g c h slot newest last body all = rewrite_still (g.D.Disk.past c.args.disk.now) (g.D.Disk.past c.args.disk.now) all

pub returns-in-Two-clause-ok : goal.returns-in-Two-clause-ok
returns-in-Two-clause-ok g c h slot newest last body all image at = subst (λ (f : Format). HasNewest f c.args.layout slot newest body last image) c.in-Two.is (all image at)

pub returns-in_err-write_run_synced-in-One-clause-during : goal.returns-in_err-write_run_synced-in-One-clause-during
returns-in_err-write_run_synced-in-One-clause-during g c h slot newest last body all =
    let old = g.D.Disk.past c.args.disk.now in
    let new = g.D.Disk.past c.write_run_synced.new.disk in
    rewrite_during old new all (subst (λ (s : Sector). During old new (AfterRun old 0 (s ∷ []))) c.superblock.ensures (c.write_run_synced.ensures.during h))

pub returns-in_ok-write_run_synced-in-One-clause-during : goal.returns-in_ok-write_run_synced-in-One-clause-during
returns-in_ok-write_run_synced-in-One-clause-during g c h slot newest last body all =
    let old = g.D.Disk.past c.args.disk.now in
    let new = g.D.Disk.past c.write_run_synced.new.disk in
    rewrite_during old new all (subst (λ (s : Sector). During old new (AfterRun old 0 (s ∷ []))) c.superblock.ensures (c.write_run_synced.ensures.during h))

pub returns-in_ok-write_run_synced-in-One-clause-ok : goal.returns-in_ok-write_run_synced-in-One-clause-ok
returns-in_ok-write_run_synced-in-One-clause-ok g c h slot newest last body all =
    let old = g.D.Disk.past c.args.disk.now in
    let new = g.D.Disk.past c.write_run_synced.new.disk in
    rewrite_ok old new all (g.met.D.Disk.seen_is_image c.args.disk.now h) (subst (λ (s : Sector). IsLaid (seen old) 0 (s ∷ []) (seen new)) c.superblock.ensures (c.in_ok-write_run_synced-in-One.ensures.ok h))
    (c.in_ok-write_run_synced-in-One.ensures.settled h)
