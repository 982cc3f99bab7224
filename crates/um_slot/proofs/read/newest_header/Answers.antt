use Rattle.std.proofs.Common.{sym, ◌∙◌, ap, subst}
use Rattle.um_model.specs.Disk.{Sector, Past, seen}
use Rattle.um_slot.specs.Reading.{ReadsHeader, Finds}
use Rattle.um_slot.proofs.Finding.{finds}
use Rattle.um_slot.proofs.read.newest_header.Goals as goal

pub returns-clause-found : goal.returns-clause-found
returns-clause-found g c h =
    let layout = c.args.layout in
    let image = seen (g.D.Disk.past c.args.disk.now) in
    let a = c.in_ok-read.ensures.value h ∙ ap image c.slot_start.ensures in
    let b = c.in_ok-read-2.ensures.value (c.read.ensures.honest ∙ h) ∙ ap (λ (p : Past). seen p c.slot_start-2.result) (c.read.ensures.past h) ∙ ap image c.slot_start-2.ensures in
    subst (Finds layout image) (sym c.newer-found.ensures) (finds layout image c.read_header.result c.read_header-2.result
    (subst (λ (s : Sector). ReadsHeader layout s c.read_header.result) a c.read_header.ensures) (subst (λ (s : Sector). ReadsHeader layout s c.read_header-2.result) b c.read_header-2.ensures))
