use Rattle.um_engine.proofs.RowLaws.{back_served, delta_served, delta_stands, delta_weighs}
use Rattle.um_engine.proofs.served.Served.swap.Goals as goal

pub returns-clause-state : goal.returns-clause-state
returns-clause-state c =
    delta_served c.self.inside.known.value c.self.inside.state c.self.invariant.0 c.self.invariant.1 c.args.delta.now c.args.self.now c.swap.new.state c.self.view_is c.swap.ensures.state

pub returns-clause-back : goal.returns-clause-back
returns-clause-back c =
    let k = c.self.inside.known.value in
    let s = c.self.inside.state in
    let there = delta_stands k s c.self.invariant.0 c.self.invariant.1 c.args.delta.now c.swap.new.state c.swap.ensures.state in
    back_served k s c.swap.new.state c.args.self.now c.swap.new.self c.self.invariant.0 there.0 c.self.view_is c.swap.ensures.back

pub invariant_of-self : goal.invariant_of-self
invariant_of-self c =
    let k = c.self.inside.known.value in
    let s = c.self.inside.state in
    let (names, knows) = delta_stands k s c.self.invariant.0 c.self.invariant.1 c.args.delta.now c.swap.new.state c.swap.ensures.state in
    (names, knows, delta_weighs k c.args.delta.now s c.swap.new.state c.self.inside.trees c.swap.ensures.state c.self.invariant.2)
