use Rattle.std.proofs.Common.{arith, refl}
use Rattle.um_graph.proofs.RowLaws.{seen_same}
use Rattle.um_graph.proofs.SortLaws.{row_sorted}
use Rattle.um_graph.proofs.units.Units.sort_row.Goals as goal

pub returns-clause-same : goal.returns-clause-same
returns-clause-same c =
    seen_same c.args.self.now.units.items c.args.x c.index_mut.result.now (record c.index_mut.result.now { row = c.sort.new.self }) (omega (arith, c.requires)) c.index_mut.ensures.value refl

pub returns-clause-sorts : goal.returns-clause-sorts
returns-clause-sorts c bonds a =
    row_sorted bonds c.args.self.now.units.items c.args.x c.index_mut.result.now (record c.index_mut.result.now { row = c.sort.new.self }) a
    (omega (arith, c.requires)) c.index_mut.ensures.value c.sort.ensures.same.0 c.in_ok-sort.ensures.sorted c.sort.ensures.unique
