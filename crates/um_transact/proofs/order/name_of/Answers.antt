use Rattle.std.proofs.Common.{rules, ◌≡◌, sym, []}
use Rattle.um_graph.specs.Named.{name_at}
use Rattle.um_transact.proofs.CheckLaws.{none_named}
use Rattle.um_transact.proofs.order.name_of.Goals as goal

pub returns-in-None : goal.returns-in-None
returns-in-None c =
    let none : name_at c.args.graph.now.names c.args.unit ≡ [] = none_named c.args.graph.now.names c.args.unit (sym c.in-None.ensures) in
    search (rules, none)
