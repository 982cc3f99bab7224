use Rattle.std.proofs.Common.{inl, inr}
use Rattle.um_unit.specs.View.{tree_read}
use Rattle.um_graph.proofs.CountLaws.{counts_for, few_lasting}
use Rattle.um_graph.proofs.GraphLaws.{graph_is, graph_sound}
use Rattle.um_graph.proofs.SortLaws.{sorted_graph}
use Rattle.um_graph.proofs.graph.Graph.of.Goals as goal

pub invariant_of-result : goal.invariant_of-result
invariant_of-result c = (
  sorted_graph c.in_ok-units.units.units.items _
      (graph_sound (tree_read c.args.reading) c.args.extra.now c.in_ok-known.known.loaded c.in_ok-known.known.told.items c.in_ok-known.ensures.whole c.in_ok-units.units.units.items c.in_ok-units.ensures.units
      c.in_ok-known.ensures.few _) c.in_ok-units.ensures.sorted,
  c.in_ok-firsts.ensures,
)

pub returns-clause-whole : goal.returns-clause-whole
returns-clause-whole c =
    graph_sound (tree_read c.args.reading) c.args.extra.now c.in_ok-known.known.loaded c.in_ok-known.known.told.items c.in_ok-known.ensures.whole c.in_ok-units.units.units.items c.in_ok-units.ensures.units
    c.in_ok-known.ensures.few _

pub returns-clause-graph : goal.returns-clause-graph
returns-clause-graph c =
    graph_is (tree_read c.args.reading) c.args.extra.now c.in_ok-known.known.loaded c.in_ok-known.known.told.items c.in_ok-known.ensures.whole c.in_ok-units.units.units.items c.in_ok-units.ensures.units _

pub returns-clause-count : goal.returns-clause-count
returns-clause-count c = counts_for (tree_read c.args.reading) c.args.extra.now c.in_ok-lasting.lasting _ _ _ c.in_ok-lasting.ensures.counts c.in_ok-known.ensures.count c.len.ensures.len c.greater-count.ensures

pub returns-clause-few : goal.returns-clause-few
returns-clause-few c (inl k) = c.in_ok-known.ensures.few k
returns-clause-few c (inr k) = few_lasting (tree_read c.args.reading) c.args.extra.now c.in_ok-lasting.lasting c.in_ok-lasting.ensures.counts c.in_ok-known.ensures.few k
