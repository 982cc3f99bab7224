use Rattle.std.proofs.Common.{◌∙◌, sym, ap, subst}
use Rattle.um_state.specs.LiveRows.{StandsAt, told}
use Rattle.um_state.proofs.LiveLaws.{none_left, told_kept}
use Rattle.um_state.proofs.live.LiveRows.remove.Goals as goal

pub returns-in-Some-clause-others : goal.returns-in-Some-clause-others
returns-in-Some-clause-others c = λ n other.
    let at = subst (λ l. StandsAt l c.args.number c.in-Some.i) c.deref.ensures.value c.in-Some.ensures in
    ap (λ l. told l n) c.remove.ensures.items ∙ told_kept c.args.self.now.list.items c.in-Some.i n at.within (λ e. other (sym e ∙ at.has))

pub returns-in-Some-clause-gone : goal.returns-in-Some-clause-gone
returns-in-Some-clause-gone c =
    let at = subst (λ l. StandsAt l c.args.number c.in-Some.i) c.deref.ensures.value c.in-Some.ensures in
    ap (λ l. told l c.args.number) c.remove.ensures.items ∙ none_left c.args.self.now.list.items c.in-Some.i c.args.self.now.rising at.within c.args.number at.has
