use Rattle.std.proofs.Common.{length, ap, arith}
use Rattle.um_graph.specs.Graph.{GraphView}
use Rattle.um_state.specs.View.{state_of}
use Rattle.um_engine.proofs.TellingLaws.{all_first, more_first, none_first}
use Rattle.um_engine.proofs.numbered.tell_all.Goals as goal

pub loop-unit-init : goal.loop-unit-init
loop-unit-init c before tells = none_first c.args.work.now.graph before (state_of c.args.work.now.now) c.args.jobs.now tells

pub loop-unit-preserved : goal.loop-unit-preserved
loop-unit-preserved c before tells =
    let w = c.args.work.now in
    more_first w.graph (state_of w.now) c.loop-unit.unit c.loop-unit.jobs
    (omega (arith, c.loop-unit-test.true, c.len-unit-end.ensures.len, ap (λ (g : GraphView). length g.names) c.graph.ensures.graph))
    (c.loop-unit.invariant before tells) c.tell.new.jobs c.tell.ensures

pub returns : goal.returns
returns c before tells =
    let w = c.args.work.now in
    all_first w.graph (state_of w.now) c.loop-unit.unit c.loop-unit.jobs (c.loop-unit.invariant before tells)
    (omega (arith, c.loop-unit-test.false, c.len-unit-end.ensures.len, ap (λ (g : GraphView). length g.names) c.graph.ensures.graph))
