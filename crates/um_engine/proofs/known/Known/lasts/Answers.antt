use Rattle.std.proofs.Common.{Contains, option_map, unwrap_or, subst, sym}
use Rattle.um_engine.specs.Known.{KnownView}
use Rattle.um_engine.proofs.known.Known.lasts.Goals as goal

pub returns-in-Some : goal.returns-in-Some
returns-in-Some c = λ told known.
    let unit = c.args.unit.now in
    subst (λ (k : KnownView). Contains k.lasting unit) c.self.view_is
    (subst (λ o. Contains (unwrap_or (option_map (λ names. names.items) o) c.self.inside.graph.names) unit) (sym c.in-Some.is)
    (subst (λ xs. Contains xs unit) c.deref.ensures.value (c.is_among.ensures told)))

pub returns-in-None : goal.returns-in-None
returns-in-None c = λ told known.
    let unit = c.args.unit.now in
    subst (λ (k : KnownView). Contains k.lasting unit) c.self.view_is
    (subst (λ o. Contains (unwrap_or (option_map (λ names. names.items) o) c.self.inside.graph.names) unit) (sym c.in-None.is)
    (subst (λ (k : KnownView). Contains k.graph.names unit) (sym c.self.view_is) known))
