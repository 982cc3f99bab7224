use Rattle.std.proofs.Common.{subst, sym}
use Rattle.um_graph.specs.Graph.{IsNumberOf}
use Rattle.um_falling.proofs.falling.fall_next.Goals as goal

pub returns-clause-waits : goal.returns-clause-waits
returns-clause-waits c =
    let name = c.in-Some.field-0.now in
    c.in_ok-carry_on.ensures.waits name (subst (λ g. IsNumberOf g c.args.unit name) c.graph.ensures.graph (sym (rw c.in-Some.is at c.name.ensures)))
