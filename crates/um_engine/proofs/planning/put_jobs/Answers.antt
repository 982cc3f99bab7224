use Rattle.std.proofs.Common.{◌≡◌, ◌∙◌, ap, refl, length, arith}
use Rattle.um_graph.specs.Graph.{GraphView}
use Rattle.um_engine.proofs.PlannedLaws.{puts_all, puts_more, puts_none}
use Rattle.um_engine.proofs.planning.put_jobs.Goals as goal

pub loop-unit-init : goal.loop-unit-init
loop-unit-init c = puts_none c.args.work.now c.args.jobs.now c.requires.tidy

pub loop-unit-preserved : goal.loop-unit-preserved
loop-unit-preserved c =
    let long : c.len-unit-end.result ≡ length c.args.work.now.graph.names = c.len-unit-end.ensures.len ∙ ap (λ (g : GraphView). length g.names) c.graph.ensures.graph in
    puts_more c.args.work.now c.loop-unit.work c.set_jobs.new.self c.args.jobs.now c.loop-unit.unit _ c.graph.ensures.serves (omega (arith, long)) c.loop-unit.invariant
    c.set_jobs.ensures.keeps c.set_jobs.ensures.actions refl c.set_jobs.ensures.state

pub returns-clause-state : goal.returns-clause-state
returns-clause-state c =
    let long : c.len-unit-end.result ≡ length c.args.work.now.graph.names = c.len-unit-end.ensures.len ∙ ap (λ (g : GraphView). length g.names) c.graph.ensures.graph in
    puts_all c.args.work.now c.loop-unit.work c.args.jobs.now c.loop-unit.unit c.graph.ensures.serves (omega (arith, long)) c.loop-unit.invariant

pub returns-clause-keeps : goal.returns-clause-keeps
returns-clause-keeps c = c.loop-unit.invariant.keeps

pub returns-clause-actions : goal.returns-clause-actions
returns-clause-actions c = c.loop-unit.invariant.actions
