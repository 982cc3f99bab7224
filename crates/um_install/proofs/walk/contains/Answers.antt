use Rattle.std.proofs.Common.{◌∙◌}
use Rattle.um_unit.specs.View.{loading_of}
use Rattle.um_install.proofs.Members.{contains_text}
use Rattle.um_install.proofs.walk.contains.Goals as goal

pub returns : goal.returns
returns c = c.contains_key.ensures ∙ contains_text loading_of c.args.units.now c.args.name.now
