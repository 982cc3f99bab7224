use Rattle.std.proofs.Common.{◌≡◌, true, subst}
use Rattle.um_model.proofs.TreeLaws.{fit-name}
use Rattle.um_model.specs.Names.{is_unit_name}
use Rattle.um_tree.specs.Place.{place_of}
use Rattle.um_tree.proofs.path.ServedPath.unit.Goals as goal

pub returns-clause-name : goal.returns-clause-name
returns-clause-name c =
    subst (λ p. is_unit_name p.unit ≡ true) c.self.view_is (fit-name c.self.inside.unit.now (place_of c.self.inside.place) c.self.invariant)
