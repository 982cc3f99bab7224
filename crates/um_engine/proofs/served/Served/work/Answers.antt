use Rattle.std.proofs.Common.{◌∙◌, ap, subst, sym}
use Rattle.um_falling.specs.Over.{Serves}
use Rattle.um_graph.specs.Graph.{GraphView}
use Rattle.um_state.specs.View.{state_of}
use Rattle.um_engine.specs.Known.{KnownView, KnowsFor}
use Rattle.um_engine.specs.Served.{ServedView}
use Rattle.um_engine.proofs.KnownLaws.{serves_for}
use Rattle.um_engine.proofs.RowLaws.{served_begun}
use Rattle.um_engine.proofs.served.Served.work.Goals as goal

pub returns-clause-begins : goal.returns-clause-begins
returns-clause-begins c =
    served_begun c.args.self.now c.self.inside.known.value c.self.inside.state c.self.view_is c.self.invariant.0 c.graph.result.now
    (c.graph.ensures ∙ ap (λ (k : KnownView). k.graph) c.deref.ensures) c.in-Some.work c.args.moment (rw c.in-Some.is at c.in_ok-work.ensures.begins)

pub of-requires-clause-serves : goal.of-requires-clause-serves
of-requires-clause-serves c =
    subst (λ (g : GraphView). Serves g (state_of c.self.inside.state)) (sym (c.graph.ensures ∙ ap (λ (k : KnownView). k.graph) c.deref.ensures))
    (serves_for c.self.inside.known.value (state_of c.self.inside.state) c.self.invariant.1)

pub returns-clause-knows : goal.returns-clause-knows
returns-clause-knows c = subst (λ (v : ServedView). KnowsFor v.known v.state) c.self.view_is c.self.invariant.1
