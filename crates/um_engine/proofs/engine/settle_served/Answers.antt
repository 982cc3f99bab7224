use Rattle.std.proofs.Common.{map}
use Rattle.um_state.specs.View.{action_of}
use Rattle.um_engine.proofs.DoneLaws.{settled_served}
use Rattle.um_engine.proofs.engine.settle_served.Goals as goal

pub returns : goal.returns
returns c =
    settled_served c.args.served.now c.args.moment c.in_ok-work.work c.settle.new.work c.in_ok-delta.delta (map action_of c.in_ok-delta.actions.items) c.in_ok-work.ensures.begins
    c.in_ok-settle.ensures.keeps c.in_ok-settle.ensures.settles c.in_ok-delta.ensures.after c.in_ok-delta.ensures.count c.in_ok-delta.ensures.actions c.swap.new.self c.swap.ensures.state
