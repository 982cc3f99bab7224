use Rattle.std.proofs.Common.{◌≡◌, ◌∙◌, ℕ, List, [], ◌∷◌, length, sym, ap, subst}
use Rattle.um_laws.proofs.DiskLaws.{settled_after_sync}
use Rattle.um_model.specs.Disk.{Sector, Past, seen, During, IsSettled}
use Rattle.um_model.specs.Store.{slot_start, header_sector, sector_count}
use Rattle.um_sector.specs.Runs.{IsLaid, MaybeLaid}
use Rattle.um_slot.specs.Snapshots.{IsWritten}
use Rattle.um_slot.proofs.Writing.{sealing, sealed, header_done, done_maybe}
use Rattle.um_slot.proofs.write.seal.Goals as goal

-- a fact of a run of one sector, of the same at the same place
abbrev moved : (P : ℕ → List Sector → Type 0) {at to : ℕ} {v w : Sector} → at ≡ to → v ≡ w → P at (v ∷ []) → P to (w ∷ [])
moved P {at} {to} {v} {w} is_at is p = subst (λ (s : Sector). P to (s ∷ [])) is (subst (λ n. P n (v ∷ [])) is_at p)

pub returns-in_err-sync-clause-during : goal.returns-in_err-sync-clause-during
returns-in_err-sync-clause-during g c h body long all =
    sealing c.args.layout c.args.to.slot c.args.to.generation body c.sync.result (g.D.Disk.past c.args.disk.now) (g.D.Disk.past c.sync.new.self)
    (g.met.D.Disk.seen_is_image c.args.disk.now h) (c.sync.ensures.past h)

pub returns-in_err-write_run_synced-clause-during : goal.returns-in_err-write_run_synced-clause-during
returns-in_err-write_run_synced-clause-during g c h body long all =
    let layout = c.args.layout in
    let to = c.args.to in
    let old = g.D.Disk.past c.args.disk.now in
    let mid = g.D.Disk.past c.sync.new.self in
    let new = g.D.Disk.past c.write_run_synced.new.disk in
    sealed layout to.slot to.generation body old mid new (g.met.D.Disk.seen_is_image c.args.disk.now h) (c.in_ok-sync.ensures.past h)
    (subst (λ (n : ℕ). IsWritten layout (seen old) to.slot body (sector_count n)) (sym long) all)
    (moved (λ n run. During mid new (MaybeLaid (seen mid) n run)) c.slot_start.ensures (c.header_sector.ensures ∙ ap (header_sector to.generation) (sym long))
    (c.write_run_synced.ensures.settled_during (c.sync.ensures.honest ∙ h) (subst IsSettled (sym (c.in_ok-sync.ensures.past h)) (settled_after_sync old))))

pub returns-clause-during : goal.returns-clause-during
returns-clause-during g c h body long all =
    let layout = c.args.layout in
    let to = c.args.to in
    let old = g.D.Disk.past c.args.disk.now in
    let mid = g.D.Disk.past c.sync.new.self in
    let new = g.D.Disk.past c.write_run_synced.new.disk in
    sealed layout to.slot to.generation body old mid new (g.met.D.Disk.seen_is_image c.args.disk.now h) (c.in_ok-sync.ensures.past h)
    (subst (λ (n : ℕ). IsWritten layout (seen old) to.slot body (sector_count n)) (sym long) all)
    (moved (λ n run. During mid new (MaybeLaid (seen mid) n run)) c.slot_start.ensures (c.header_sector.ensures ∙ ap (header_sector to.generation) (sym long))
    (c.write_run_synced.ensures.settled_during (c.sync.ensures.honest ∙ h) (subst IsSettled (sym (c.in_ok-sync.ensures.past h)) (settled_after_sync old))))

pub returns-clause-written : goal.returns-clause-written
returns-clause-written g c h body long all =
    let layout = c.args.layout in
    let to = c.args.to in
    let old = g.D.Disk.past c.args.disk.now in
    let mid = g.D.Disk.past c.sync.new.self in
    let new = g.D.Disk.past c.write_run_synced.new.disk in
    header_done layout to.slot to.generation body (seen old) (subst (λ (n : ℕ). IsWritten layout (seen old) to.slot body (sector_count n)) (sym long) all) (seen new)
    (subst (λ (p : Past). IsLaid (seen p) (slot_start layout to.slot) (header_sector to.generation (length body) ∷ []) (seen new)) (c.in_ok-sync.ensures.past h)
    (moved (λ n run. IsLaid (seen mid) n run (seen new)) c.slot_start.ensures (c.header_sector.ensures ∙ ap (header_sector to.generation) (sym long))
    (c.in_ok-write_run_synced.ensures.ok (c.sync.ensures.honest ∙ h))))

pub returns-clause-beside : goal.returns-clause-beside
returns-clause-beside g c h body long all =
    let layout = c.args.layout in
    let to = c.args.to in
    let old = g.D.Disk.past c.args.disk.now in
    let mid = g.D.Disk.past c.sync.new.self in
    let new = g.D.Disk.past c.write_run_synced.new.disk in
    done_maybe layout to.slot to.generation body (seen old) (subst (λ (n : ℕ). IsWritten layout (seen old) to.slot body (sector_count n)) (sym long) all) (seen new)
    (subst (λ (p : Past). IsLaid (seen p) (slot_start layout to.slot) (header_sector to.generation (length body) ∷ []) (seen new)) (c.in_ok-sync.ensures.past h)
    (moved (λ n run. IsLaid (seen mid) n run (seen new)) c.slot_start.ensures (c.header_sector.ensures ∙ ap (header_sector to.generation) (sym long))
    (c.in_ok-write_run_synced.ensures.ok (c.sync.ensures.honest ∙ h))))

pub returns-clause-same : goal.returns-clause-same
returns-clause-same g c h j out =
    let layout = c.args.layout in
    let to = c.args.to in
    let mid = g.D.Disk.past c.sync.new.self in
    let new = g.D.Disk.past c.write_run_synced.new.disk in
    (subst (λ (p : Past). IsLaid (seen p) (slot_start layout to.slot) (header_sector to.generation c.args.size ∷ []) (seen new)) (c.in_ok-sync.ensures.past h)
    (moved (λ n run. IsLaid (seen mid) n run (seen new)) c.slot_start.ensures c.header_sector.ensures (c.in_ok-write_run_synced.ensures.ok (c.sync.ensures.honest ∙ h)))).outside j out
