use Rattle.std.proofs.Common.{◌+◌, ℕ, Option, IfSome, sym, subst}
use Rattle.um_model.specs.Disk.{seen}
use Rattle.um_model.specs.Store.{top}
use Rattle.um_model.specs.declared.layout.Format.{Format}
use Rattle.um_log.specs.Greatest.{IsGreatestIn, IsGreatest}
use Rattle.um_log.proofs.Everywhere.{one_place, three_places}
use Rattle.um_log.proofs.generations.greatest.Goals as goal

pub returns-in-One-default-clause-greatest : goal.returns-in-One-default-clause-greatest
returns-in-One-default-clause-greatest g c h newest here behind =
    let layout = c.args.layout in
    let image = seen (g.D.Disk.past c.args.disk.now) in
    subst (λ (f : Format). IsGreatest layout image (top f newest) c.args.here) (sym c.in-One-default.is-0)
    (one_place layout newest image c.args.here (subst (λ (f : Format). IsGreatestIn f layout newest image c.args.here) c.in-One-default.is-0 here))

pub returns-in_ok-all-in-Two-Some-clause-greatest : goal.returns-in_ok-all-in-Two-Some-clause-greatest
returns-in_ok-all-in-Two-Some-clause-greatest g c h newest here behind =
    let layout = c.args.layout in
    let image = seen (g.D.Disk.past c.args.disk.now) in
    let is = c.in-Two-Some.is-0 in
    let both = c.greater-both in
    let all = c.in_ok-all-in-Two-Some in
    let later = subst (λ (o : Option ℕ). IfSome o (λ n. IsGreatestIn c.args.format layout (newest + 1) image n)) c.in-Two-Some.is-1 behind in
    subst (λ (f : Format). IsGreatest layout image (top f newest) all.all) (sym is)
    (three_places layout newest image c.args.here c.in-Two-Some.behind both.result all.all (subst (λ (f : Format). IsGreatestIn f layout newest image c.args.here) is here)
    (subst (λ (f : Format). IsGreatestIn f layout (newest + 1) image c.in-Two-Some.behind) is later)
    both.ensures.least both.ensures.either all.ensures.least (all.ensures.most h) (all.ensures.stands h))
