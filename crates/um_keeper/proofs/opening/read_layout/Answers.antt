use Rattle.std.proofs.Common.{◌<◌, inr, sym, ◌∙◌, arith}
use Rattle.um_model.specs.Disk.{seen}
use Rattle.um_model.specs.Store.{store_sectors}
use Rattle.um_keeper.specs.Opening.{no_sector}
use Rattle.um_keeper.proofs.Results.{err_same}
use Rattle.um_keeper.proofs.Reopening.{first_unread, too_small}
use Rattle.um_keeper.proofs.opening.read_layout.Goals as goal

pub returns-then-sectors-eq0-clause-err : goal.returns-then-sectors-eq0-clause-err
returns-then-sectors-eq0-clause-err g c = inr (λ h. no_sector (omega (arith, c.if-sectors-eq0.true, c.sectors.ensures)))

pub returns-in_err-format-clause-err : goal.returns-in_err-format-clause-err
returns-in_err-format-clause-err g c =
    err_same _ c.from_residual-in_err-format.result c.in_err-format.field-0.0 c.from_residual-in_err-format.ensures.1
    (inr (λ h.
    let some : 0 < g.D.Disk.size c.args.disk.now = omega (arith, c.if-sectors-eq0.false, c.sectors.ensures) in
    first_unread (g.D.Disk.size c.args.disk.now) (seen (g.D.Disk.past c.args.disk.now)) c.read.new.sector c.read_superblock.result c.in_err-format.field-0.0 c.in_err-format.was (c.in_ok-read.ensures.value h) some
    c.in_err-format.ensures.err c.read_superblock.ensures.unformatted.0 c.read_superblock.ensures.other.0 c.read_superblock.ensures.unformatted.1 c.read_superblock.ensures.other.1))

pub returns-then-sectors-clause-err : goal.returns-then-sectors-clause-err
returns-then-sectors-clause-err g c = inr (λ h.
    let some : 0 < g.D.Disk.size c.args.disk.now = omega (arith, c.if-sectors-eq0.false, c.sectors.ensures) in
    let small : g.D.Disk.size c.args.disk.now < store_sectors c.in_ok-format.layout = omega (arith, c.if-sectors.true, c.sectors-2.ensures, c.sectors-3.ensures, c.read.ensures.size) in
    too_small (g.D.Disk.size c.args.disk.now) (seen (g.D.Disk.past c.args.disk.now)) c.in_ok-format.format c.in_ok-format.layout some (sym (c.in_ok-read.ensures.value h) ∙ c.in_ok-format.ensures.ok) small)
