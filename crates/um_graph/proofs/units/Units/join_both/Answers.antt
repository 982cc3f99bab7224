use Rattle.std.proofs.Common.{◌++◌, ◌∷◌, [], subst, append_assoc}
use Rattle.um_graph.specs.Rows.{AreRows}
use Rattle.um_graph.proofs.units.Units.join_both.Goals as goal

pub returns-clause-bonds : goal.returns-clause-bonds
returns-clause-bonds c bonds bit back one inverse a =
    let first = (bit, c.args.x, c.args.y) ∷ [] in
    let second = (back, c.args.y, c.args.x) ∷ [] in
    subst (λ t. AreRows t c.join-2.new.self.units.items) (append_assoc bonds first second)
    (c.in_ok-join-2.ensures.bonds (bonds ++ first) back inverse (c.in_ok-join.ensures.bonds bonds bit one a))
