use Rattle.um_engine.proofs.RowLaws.{undo_served, undo_stands, undo_weighs}
use Rattle.um_engine.proofs.served.Served.undo.Goals as goal

pub returns-clause-state : goal.returns-clause-state
returns-clause-state c =
    undo_served c.self.inside.known.value c.self.inside.state c.self.invariant.0 c.self.invariant.1 c.args.delta c.args.self.now c.undo.new.state c.self.view_is c.undo.ensures

pub invariant_of-self : goal.invariant_of-self
invariant_of-self c =
    let (names, knows) = undo_stands c.self.inside.known.value c.self.inside.state c.self.invariant.0 c.self.invariant.1 c.args.delta c.undo.new.state c.undo.ensures in
    (names, knows, undo_weighs c.self.inside.known.value c.args.delta c.self.inside.state c.undo.new.state c.self.inside.trees c.undo.ensures c.self.invariant.2)
