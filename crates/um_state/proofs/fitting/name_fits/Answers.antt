use Rattle.std.proofs.Common.{arith}
use Rattle.um_laws.proofs.AsciiLaws.{name_utf8}
use Rattle.um_model.proofs.WeightLaws.{short_name}
use Rattle.um_state.proofs.fitting.name_fits.Goals as goal

pub returns : goal.returns
returns c =
    let unit = c.args.unit.now in
    let name = c.as_str.ensures.name in
    ((omega (arith, short_name unit name), name_utf8 unit name), name)
