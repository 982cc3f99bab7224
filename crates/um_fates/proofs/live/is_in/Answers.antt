use Rattle.std.proofs.Common.{◌≡◌, ◌∙◌, ap, rules, subst}
use Rattle.um_model.specs.Machine.{IsProcessOf}
use Rattle.um_fates.proofs.Numbered.{stands_in}
use Rattle.um_fates.proofs.live.is_in.Goals as goal

pub returns-in-Some-clause-no : goal.returns-in-Some-clause-no
returns-in-Some-clause-no c = λ differs is.
    let process = subst (λ n. IsProcessOf c.args.units.now.held n c.in-Some.unit.now) c.get.ensures.value c.in-Some.ensures in
    let same : c.get-in-Some.result.sub ≡ c.args.sub = ap (λ u. u.sub) c.get-in-Some.ensures.state ∙ stands_in c.args.units.now.held c.args.number c.in-Some.unit.now c.args.sub process is in
    search (rules, same, differs)
