use Rattle.std.proofs.Common.{◌+◌, sym, subst}
use Rattle.um_model.specs.declared.layout.Format.{Format}
use Rattle.um_keeper.specs.Opening.{AreRead, HaveLater}
use Rattle.um_keeper.proofs.Telling.{later_alone, of_two, later_both}
use Rattle.um_keeper.proofs.opening.later_of.Goals as goal

pub returns-in-None : goal.returns-in-None
returns-in-None c format newest image read = later_alone format c.args.layout newest image c.args.read.records c.args.read.here c.args.read.behind read c.in-None.is

pub returns-in-Some : goal.returns-in-Some
returns-in-Some c format newest image read =
    let layout = c.args.layout in
    let own = c.args.read.here in
    let behind = c.in-Some.remains in
    let both = of_two format layout newest image c.args.read.records own behind (subst (AreRead format layout newest image c.args.read.records own) c.in-Some.is read) in
    subst (λ (f : Format). HaveLater f layout newest image (own.later + behind.later)) (sym both.0) (later_both layout newest image own both.1 behind both.2)
