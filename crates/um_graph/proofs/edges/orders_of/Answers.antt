use Rattle.std.proofs.Common.{◌<◌, ◌∙◌, All, ap, subst, sym, vec_len}
use Rattle.std.proofs.lemmas.List.Elements.{All-get_or, All-push}
use Rattle.um_graph.specs.Edges.{order_seen}
use Rattle.um_graph.specs.declared.units.Edge.{Edge}
use Rattle.um_graph.specs.declared.units.Pair.{Pair}
use Rattle.um_graph.proofs.ListLaws.{none_made, one_made}
use Rattle.um_graph.proofs.edges.orders_of.Goals as goal
use Rattle.um_graph.proofs.edges.orders_of.Goals.{in-Some+in_ok-push, in_default}

pub loop-edge-preserved : goal.loop-edge-preserved
loop-edge-preserved c =
    let edges = c.args.edges.now in
    let units = c.args.units.now.units in
    let i = c.loop-edge.edge-index in
    let old = c.loop-edge.orders.items in
    let new = c.match-order_of.orders.items in
    let seen = order_seen units.items in
    let inside = λ (e : Edge). (e.from < vec_len units) × (e.to < vec_len units) in
    let within = λ (p : Pair). (p.first < vec_len units) × (p.second < vec_len units) in
    elim c.match-order_of.branch [
      | in-Some+in_ok-push w ↦
          let grown = ap (λ v. v.items) w.orders-is ∙ w.in_ok-push.ensures.items in
          let ends = All-get_or inside edges i _ c.loop-edge-test.true c.requires.within in
          record {
            pairs = one_made seen edges i _ old new w.in-Some.pair c.loop-edge-test.true c.loop-edge.invariant.pairs w.in-Some.ensures.pair grown;
            within = subst (All within) (sym grown) (All-push within old w.in-Some.pair c.loop-edge.invariant.within (w.in-Some.ensures.within ends.0 ends.1));
          }
      | in_default w ↦
          let same = ap (λ v. v.items) w.orders-is in
          record {
            pairs = none_made seen edges i _ old new c.loop-edge-test.true c.loop-edge.invariant.pairs w.in_default.ensures.pair same;
            within = subst (All within) (sym same) c.loop-edge.invariant.within;
          }
    ]
