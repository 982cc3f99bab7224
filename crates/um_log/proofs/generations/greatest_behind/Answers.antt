use Rattle.std.proofs.Common.{◌≡◌, ◌∙◌, ◌-◌, sym, ap, subst, arith}
use Rattle.um_model.specs.Disk.{seen}
use Rattle.um_model.specs.Store.{IsOf}
use Rattle.um_log.proofs.generations.greatest_behind.Goals as goal

pub returns-clause-most : goal.returns-clause-most
returns-clause-most g c h theirs j low high of =
    let place : j ≡ c.sectors.result - 1 = omega (arith, c.sectors.ensures, c.if-layout-eq0.false, low, high) in
    let told = c.told_generation.ensures.most theirs (subst (IsOf theirs) (ap (seen (g.D.Disk.past c.args.disk.now)) place ∙ sym (c.in_ok-read.ensures.value h)) of) in
    let least = c.greater.ensures.least in
    omega (arith, told, least.1)
