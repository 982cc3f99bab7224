-- The places of the code, as those of the definitions.
use Rattle.um_model.specs.Tree as model
use Rattle.um_tree.specs.declared.path.Place.{Place}
use Rattle.um_tree.specs.declared.path.Place.TheVariants as seen

abbrev pub place_of : Place → model.Place
place_of seen.Unit = model.Unit
place_of (seen.DropIn name) = model.DropIn name.now
place_of (seen.Wants unit) = model.Wants unit.now
place_of (seen.Requires unit) = model.Requires unit.now
