use Rattle.std.proofs.Common.{◌≡◌, ◌+◌, ◌≤◌, ◌∙◌, min, ℕ, length, ap, subst, arith}
use Rattle.um_model.specs.Disk.{seen, During}
use Rattle.um_model.specs.Store.{slot_start, other, sector_count}
use Rattle.um_sector.specs.Runs.{IsLaid, AfterRun}
use Rattle.um_slot.specs.Snapshots.{part_run, IsWritten}
use Rattle.um_slot.proofs.Writing.{part_during, part_beside, part_written}
use Rattle.um_slot.proofs.write.write_next.Goals as goal

pub returns-in_err-write_sectors-clause-during : goal.returns-in_err-write_sectors-clause-during
returns-in_err-write_sectors-clause-during g c h =
    let layout = c.args.layout in
    let slot = c.args.home.slot in
    let body = c.args.body.now in
    let from = c.args.from in
    let count = c.lesser-count.result in
    let old = g.D.Disk.past c.args.disk.now in
    let new = g.D.Disk.past c.write_sectors.new.disk in
    let start : c.slot_start.result ≡ slot_start layout (other slot) = c.slot_start.ensures ∙ ap (slot_start layout) c.other.ensures in
    let low : from + count ≤ sector_count (length body) = omega (arith, c.lesser-count.ensures, c.div_ceil.ensures, c.requires.low) in
    part_during layout slot body from count c.requires.fits low old new
    (subst (λ (n : ℕ). During old new (AfterRun old (n + 1 + from) (part_run body from count))) start (c.write_sectors.ensures.during h))

pub returns-clause-during : goal.returns-clause-during
returns-clause-during g c h =
    let layout = c.args.layout in
    let slot = c.args.home.slot in
    let body = c.args.body.now in
    let from = c.args.from in
    let count = c.lesser-count.result in
    let old = g.D.Disk.past c.args.disk.now in
    let new = g.D.Disk.past c.write_sectors.new.disk in
    let start : c.slot_start.result ≡ slot_start layout (other slot) = c.slot_start.ensures ∙ ap (slot_start layout) c.other.ensures in
    let low : from + count ≤ sector_count (length body) = omega (arith, c.lesser-count.ensures, c.div_ceil.ensures, c.requires.low) in
    part_during layout slot body from count c.requires.fits low old new
    (subst (λ (n : ℕ). During old new (AfterRun old (n + 1 + from) (part_run body from count))) start (c.write_sectors.ensures.during h))

pub returns-clause-beside : goal.returns-clause-beside
returns-clause-beside g c h =
    let layout = c.args.layout in
    let slot = c.args.home.slot in
    let body = c.args.body.now in
    let from = c.args.from in
    let count = c.lesser-count.result in
    let old = seen (g.D.Disk.past c.args.disk.now) in
    let new = seen (g.D.Disk.past c.write_sectors.new.disk) in
    let start : c.slot_start.result ≡ slot_start layout (other slot) = c.slot_start.ensures ∙ ap (slot_start layout) c.other.ensures in
    let low : from + count ≤ sector_count (length body) = omega (arith, c.lesser-count.ensures, c.div_ceil.ensures, c.requires.low) in
    part_beside layout slot body from count c.requires.fits low old new
    (subst (λ (n : ℕ). IsLaid old (n + 1 + from) (part_run body from count) new) start (c.in_ok-write_sectors.ensures.ok h))

pub returns-clause-written : goal.returns-clause-written
returns-clause-written g c h before =
    let layout = c.args.layout in
    let slot = c.args.home.slot in
    let body = c.args.body.now in
    let from = c.args.from in
    let count = c.lesser-count.result in
    let old = seen (g.D.Disk.past c.args.disk.now) in
    let new = seen (g.D.Disk.past c.write_sectors.new.disk) in
    let start : c.slot_start.result ≡ slot_start layout (other slot) = c.slot_start.ensures ∙ ap (slot_start layout) c.other.ensures in
    let low : from + count ≤ sector_count (length body) = omega (arith, c.lesser-count.ensures, c.div_ceil.ensures, c.requires.low) in
    let all : from + count ≡ min (from + c.args.count) (sector_count (length body)) = omega (arith, c.lesser-count.ensures, c.div_ceil.ensures, c.requires.low) in
    subst (IsWritten layout new (other slot) body) all
    (part_written layout slot body from count c.requires.fits low old new
    (subst (λ (n : ℕ). IsLaid old (n + 1 + from) (part_run body from count) new) start (c.in_ok-write_sectors.ensures.ok h)) before)
