use Rattle.std.proofs.Common.{◌∙◌, Contains, ap, map, subst, sym}
use Rattle.um_falling.specs.Work.{WorkView}
use Rattle.um_graph.specs.Graph.{GraphView, IsNumberOf}
use Rattle.um_state.specs.View.{action_of}
use Rattle.um_engine.specs.Engine.{FollowsUpon}
use Rattle.um_engine.specs.Served.{standing_of}
use Rattle.um_engine.proofs.DoneLaws.{does_by, happened_rows}
use Rattle.um_engine.proofs.happenings.after_happening.Goals as goal

pub number_of-number-requires : goal.number_of-number-requires
number_of-number-requires c =
    subst (λ (g : GraphView). Contains g.names c.args.unit.now) (sym (c.graph.ensures.graph ∙ ap (λ (z : WorkView). z.graph) c.in_ok-work.ensures.begins)) c.requires

pub change_by-requires : goal.change_by-requires
change_by-requires c =
    let number = subst (λ g. IsNumberOf g c.number_of-number.result c.args.unit.now) c.graph.ensures.graph c.number_of-number.ensures in
    (happened_rows c.args.served.now c.args.moment c.args.unit.now c.args.event c.in_ok-work.work c.happen.new.work c.settle.new.work c.in_ok-delta.delta
    (map action_of c.in_ok-delta.actions.items) c.in_ok-work.ensures.begins c.in_ok-happen.ensures.keeps (c.in_ok-happen.ensures.happens c.args.unit.now number)
    c.in_ok-settle.ensures.keeps c.in_ok-settle.ensures.settles c.in_ok-delta.ensures.after c.in_ok-delta.ensures.count c.in_ok-delta.ensures.actions).rows.2

pub returns-clause-does : goal.returns-clause-does
returns-clause-does c =
    let v = c.args.served.now in
    let number = subst (λ g. IsNumberOf g c.number_of-number.result c.args.unit.now) c.graph.ensures.graph c.number_of-number.ensures in
    let actions = map action_of c.in_ok-delta.actions.items in
    let done = happened_rows v c.args.moment c.args.unit.now c.args.event c.in_ok-work.work c.happen.new.work c.settle.new.work c.in_ok-delta.delta
    actions c.in_ok-work.ensures.begins c.in_ok-happen.ensures.keeps (c.in_ok-happen.ensures.happens c.args.unit.now number)
    c.in_ok-settle.ensures.keeps c.in_ok-settle.ensures.settles c.in_ok-delta.ensures.after c.in_ok-delta.ensures.count c.in_ok-delta.ensures.actions in
    does_by (FollowsUpon c.args.moment v.state c.args.unit.now c.args.event) c.args.moment (standing_of v) c.in_ok-delta.delta c.in_ok-change.change actions done
    c.in_ok-change.ensures.leads c.in_ok-change.ensures.tells
