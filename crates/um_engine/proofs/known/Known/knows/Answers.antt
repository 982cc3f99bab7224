use Rattle.std.proofs.Common.{◌∙◌, Contains, option_copied, sym, ap, subst}
use Rattle.std.proofs.lemmas.Option.{same_Some}
use Rattle.um_engine.specs.Known.{KnownView}
use Rattle.um_engine.proofs.KnownLaws.{known_by}
use Rattle.um_engine.proofs.known.Known.knows.Goals as goal

pub returns-in-Some : goal.returns-in-Some
returns-in-Some c told unit e =
    subst (λ (k : KnownView). Contains k.graph.names unit) c.self.view_is
    (known_by c.self.inside.graph.names c.number.result c.in-Some.named.now unit c.is_some.result c.is_some.ensures c.number.ensures
    (same_Some c.in-Some.named.now unit (ap option_copied (sym c.in-Some.is) ∙ e)) told)
