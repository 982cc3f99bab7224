use Rattle.std.proofs.Common.{Contains, option_map, unwrap_or, sym, subst, inl}
use Rattle.um_falling.proofs.AlongLaws.{known_by}
use Rattle.um_engine.proofs.known.passing.Goals as goal

pub returns-in-None : goal.returns-in-None
returns-in-None c i unit at =
    let graph = c.args.graph.now in
    inl (subst (λ o. Contains (unwrap_or (option_map (λ names. names.items) o) graph.names) unit) (sym c.in-None.is) (known_by graph i unit at))
