use Rattle.std.proofs.Common.{arith, refl}
use Rattle.um_graph.proofs.RowLaws.{rows_more, seen_same}
use Rattle.um_graph.proofs.units.Units.join.Goals as goal

pub returns-clause-bonds : goal.returns-clause-bonds
returns-clause-bonds c bonds bit one a =
    rows_more bonds c.args.self.now.units.items c.args.x c.args.y bit c.index_mut.result.now (record c.index_mut.result.now { row = c.add.new.self }) c.args.kinds a
    (omega (arith, c.requires.x)) (omega (arith, c.requires.y)) c.index_mut.ensures.value c.in_ok-add.ensures.added c.in_ok-add.ensures.unique one

pub returns-clause-same : goal.returns-clause-same
returns-clause-same c =
    seen_same c.args.self.now.units.items c.args.x c.index_mut.result.now (record c.index_mut.result.now { row = c.add.new.self }) (omega (arith, c.requires.x)) c.index_mut.ensures.value refl
