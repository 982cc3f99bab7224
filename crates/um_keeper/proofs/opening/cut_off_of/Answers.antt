use Rattle.std.proofs.Common.{Some, ◌+◌, refl, sym, subst}
use Rattle.um_model.specs.declared.layout.Format.{Format}
use Rattle.um_keeper.specs.Opening.{AreRead, TellsCutOff}
use Rattle.um_keeper.specs.declared.keeper.Uncounted.{Uncounted}
use Rattle.um_keeper.proofs.Telling.{CutOff, cut_alone, of_two, cut_both, cut_first, cut_second}
use Rattle.um_keeper.proofs.opening.cut_off_of.Goals as goal

pub returns-in_default : goal.returns-in_default
unfolding CutOff
returns-in_default c format newest image read =
    cut_alone format c.args.layout newest image c.args.read.records c.args.read.here c.args.read.behind read c.in_default.is c.cut_off_in-here.result (c.cut_off_in-here.ensures.some, c.cut_off_in-here.ensures.none)

pub returns-in-Some-Some : goal.returns-in-Some-Some
unfolding CutOff
returns-in-Some-Some c format newest image read =
    let layout = c.args.layout in
    let own = c.args.read.here in
    let behind = c.in-Some.remains in
    let first = c.in-Some-Some.first in
    let second = c.in-Some-Some.second in
    let told : Uncounted = record { sector = first.sector; records = first.records + second.records } in
    let both = of_two format layout newest image c.args.read.records own behind (subst (AreRead format layout newest image c.args.read.records own) c.in-Some.is read) in
    subst (λ (f : Format). TellsCutOff f layout newest image (Some told)) (sym both.0)
    (cut_both layout newest image own both.1 behind both.2 first second told
    (subst (CutOff own) c.in-Some-Some.is-0 (c.cut_off_in-here.ensures.some, c.cut_off_in-here.ensures.none))
    (subst (CutOff behind) c.in-Some-Some.is-1 (c.cut_off_in-behind.ensures.some, c.cut_off_in-behind.ensures.none)) refl refl)

pub returns-in-Some-None : goal.returns-in-Some-None
unfolding CutOff
returns-in-Some-None c format newest image read =
    let layout = c.args.layout in
    let own = c.args.read.here in
    let behind = c.in-Some.remains in
    let first = c.in-Some-None.first in
    let both = of_two format layout newest image c.args.read.records own behind (subst (AreRead format layout newest image c.args.read.records own) c.in-Some.is read) in
    subst (λ (f : Format). TellsCutOff f layout newest image (Some first)) (sym both.0)
    (cut_first layout newest image own both.1 behind both.2 first c.cut_off_in-behind.result
    (subst (CutOff own) c.in-Some-None.is-0 (c.cut_off_in-here.ensures.some, c.cut_off_in-here.ensures.none)) (c.cut_off_in-behind.ensures.some, c.cut_off_in-behind.ensures.none) c.in-Some-None.is-1)

pub returns-in-None-default : goal.returns-in-None-default
unfolding CutOff
returns-in-None-default c format newest image read =
    let layout = c.args.layout in
    let own = c.args.read.here in
    let behind = c.in-Some.remains in
    let both = of_two format layout newest image c.args.read.records own behind (subst (AreRead format layout newest image c.args.read.records own) c.in-Some.is read) in
    subst (λ (f : Format). TellsCutOff f layout newest image c.cut_off_in-behind.result) (sym both.0)
    (cut_second layout newest image own both.1 behind both.2 c.cut_off_in-here.result c.cut_off_in-behind.result
    (c.cut_off_in-here.ensures.some, c.cut_off_in-here.ensures.none) c.in-None-default.is-0 (c.cut_off_in-behind.ensures.some, c.cut_off_in-behind.ensures.none))
