use Rattle.um_unit.specs.View.{tree_read}
use Rattle.um_install.specs.View.{units_of}
use Rattle.um_install.proofs.EnableEnd.{refuses_units}
use Rattle.um_install.proofs.enabling.check_taken.Goals as goal

pub returns : goal.returns
returns c = refuses_units (tree_read c.args.reading) c.args.unit.now (units_of c.in_ok-units.units.entries) c.in_ok-units.ensures c.check_units.result c.check_units.ensures
