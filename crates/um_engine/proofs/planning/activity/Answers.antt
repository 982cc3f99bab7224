use Rattle.std.proofs.Common.{◌≡◌, ◌∙◌, ℕ, List, length, ap, arith}
use Rattle.um_graph.specs.Graph.{GraphView, IsNumberOf}
use Rattle.um_graph.proofs.NamedLaws.{got_within}
use Rattle.um_model.specs.Service.{active_state_of, state_of_unit}
use Rattle.um_model.specs.declared.service.ActiveState.{ActiveState}
use Rattle.um_model.specs.declared.service.ActiveState.TheVariants.{Inactive}
use Rattle.um_state.specs.View.{state_of}
use Rattle.um_engine.proofs.NumberedLaws.{each_more}
use Rattle.um_engine.proofs.planning.activity.Goals as goal

pub loop-unit-preserved : goal.loop-unit-preserved
loop-unit-preserved c = record {
  long = omega (arith, c.in_ok-push.ensures.len);
  each = each_more Inactive (λ (i : ℕ) (a : ActiveState). (x : List ℕ) → IsNumberOf c.args.work.now.graph i x → a ≡ active_state_of (state_of_unit (state_of c.args.work.now.now).units x).sub)
      c.loop-unit.activity.items c.push.new.self.items c.loop-unit.unit c.activity_of.result (omega (arith, c.loop-unit.invariant.long)) c.in_ok-push.ensures.items c.activity_of.ensures c.loop-unit.invariant.each;
}

pub returns-clause-active : goal.returns-clause-active
returns-clause-active c i x at =
    let long : c.len-unit-end.result ≡ length c.args.work.now.graph.names = c.len-unit-end.ensures.len ∙ ap (λ (g : GraphView). length g.names) c.graph.ensures.graph in
    c.loop-unit.invariant.each i (let h = got_within c.args.work.now.graph.names i x at in omega (arith, h, long)) x at

pub returns-clause-graph : goal.returns-clause-graph
returns-clause-graph c = c.graph.ensures.serves.graph

pub returns-in_err-push-clause-graph : goal.returns-in_err-push-clause-graph
returns-in_err-push-clause-graph c = c.graph.ensures.serves.graph
