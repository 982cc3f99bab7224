use Rattle.std.proofs.Common.{◌∙◌, arith}
use Rattle.um_graph.proofs.SortLaws.{all_sorted, one_more}
use Rattle.um_graph.proofs.units.Units.sort_rows.Goals as goal

pub loop-x-preserved : goal.loop-x-preserved
loop-x-preserved c = record {
  same = c.in_ok-sort_row.ensures.same ∙ c.loop-x.invariant.same;
  len = c.in_ok-sort_row.ensures.len ∙ c.loop-x.invariant.len;
  rows = λ bonds a.
      let before = c.loop-x.invariant.rows bonds a in
      let sorts = c.in_ok-sort_row.ensures.sorts bonds before.0 in
      (sorts.rows, λ z h. one_more bonds c.loop-x.x c.loop-x.self.units.items c.sort_row.new.self.units.items before.1 sorts z (omega (arith, h)));
}

pub returns-clause-sorts : goal.returns-clause-sorts
returns-clause-sorts c bonds a =
    let sorted = c.loop-x.invariant.rows bonds a in
    (sorted.0, all_sorted c.loop-x.self.units.items c.loop-x.x (omega (arith, c.loop-x.invariant.len)) sorted.1)
