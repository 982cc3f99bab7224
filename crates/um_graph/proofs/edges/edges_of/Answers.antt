use Rattle.std.proofs.Common.{◌<◌, ◌∙◌, All, ap, length, subst, sym}
use Rattle.std.proofs.lemmas.List.Elements.{All-push}
use Rattle.um_graph.specs.Edges.{edge_seen}
use Rattle.um_graph.specs.declared.units.Edge.{Edge}
use Rattle.um_graph.proofs.ListLaws.{none_made, one_made}
use Rattle.um_graph.proofs.edges.edges_of.Goals as goal
use Rattle.um_graph.proofs.edges.edges_of.Goals.{in-Some+in_ok-push, in_default}

pub loop-each-preserved : goal.loop-each-preserved
loop-each-preserved c =
    let told = c.args.told.now in
    let i = c.loop-each.each-index in
    let old = c.loop-each.edges.items in
    let item = c.each-item.result in
    let seen = edge_seen c.args.names.now in
    let within = λ (e : Edge). (e.from < length c.args.names.now) × (e.to < length c.args.names.now) in
    elim c.match-edge_of.branch [
      | in-Some+in_ok-push w ↦
          let grown = ap (λ v. v.items) w.edges-is ∙ w.in_ok-push.ensures.items in
          record {
            edges = one_made seen told i item old c.match-edge_of.edges.items w.in-Some.edge c.loop-each-test.true c.loop-each.invariant.edges (w.in-Some.ensures.edge ∙ ap seen c.each-item.is) grown;
            within = subst (All within) (sym grown) (All-push within old w.in-Some.edge c.loop-each.invariant.within w.in-Some.ensures.within);
          }
      | in_default w ↦
          let same = ap (λ v. v.items) w.edges-is in
          record {
            edges = none_made seen told i item old c.match-edge_of.edges.items c.loop-each-test.true c.loop-each.invariant.edges (w.in_default.ensures.edge ∙ ap seen c.each-item.is) same;
            within = subst (All within) (sym same) c.loop-each.invariant.within;
          }
    ]
