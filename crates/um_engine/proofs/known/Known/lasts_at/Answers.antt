use Rattle.std.proofs.Common.{◌≡◌, ◌∙◌, Contains, Some, slice_get, subst, sym}
use Rattle.um_falling.proofs.AlongLaws.{known_by}
use Rattle.um_graph.specs.Graph.{IsNumberOf}
use Rattle.um_engine.specs.Known.{KnownView}
use Rattle.std.proofs.lemmas.Option.{same_Some}
use Rattle.um_engine.proofs.known.Known.lasts_at.Goals as goal

pub returns-else-not-holds_with : goal.returns-else-not-holds_with
returns-else-not-holds_with c = λ lasts unit number held.
    let named : IsNumberOf c.args.self.now.graph c.args.number c.in-Some.unit.now =
    sym (subst (λ (k : KnownView). Some c.in-Some.unit.now ≡ slice_get k.graph.names c.args.number) c.self.view_is c.in-Some.ensures) in
    let same : c.in-Some.unit.now ≡ unit = same_Some c.in-Some.unit.now unit (sym named ∙ number) in
    subst (Contains c.args.self.now.lasting) same (c.lasts.ensures lasts (known_by c.args.self.now.graph c.args.number c.in-Some.unit.now named))
