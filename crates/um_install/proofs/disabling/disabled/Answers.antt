use Rattle.std.proofs.Common.{◌∙◌, map as each, string_bytes, ap, subst}
use Rattle.um_unit.specs.View.{tree_read}
use Rattle.um_install.specs.Changes.{removed}
use Rattle.um_wire.specs.Gives.{Gives}
use Rattle.um_install.specs.View.{units_of}
use Rattle.um_install.proofs.DisableLaws.{installs, refuses}
use Rattle.um_install.proofs.disabling.disabled.Goals as goal

pub returns-clause-installs : goal.returns-clause-installs
returns-clause-installs c =
    let units = units_of c.in_ok-units.units.entries in
    let same = ap (each string_bytes) c.as_slice.ensures.value ∙ c.in_ok-paths.ensures in
    installs (tree_read c.args.reading) c.args.unit.now units c.in_ok-units.ensures c.without.result
    (subst (λ ps. Gives (λ t. t) c.without.result (removed c.args.reading.tree.now ps)) same c.without.ensures)

pub returns-clause-refused : goal.returns-clause-refused
returns-clause-refused c =
    let units = units_of c.in_ok-units.units.entries in
    let same = ap (each string_bytes) c.as_slice.ensures.value ∙ c.in_ok-paths.ensures in
    refuses (tree_read c.args.reading) c.args.unit.now units c.in_ok-units.ensures c.without.result
    (subst (λ ps. Gives (λ t. t) c.without.result (removed c.args.reading.tree.now ps)) same c.without.ensures)
