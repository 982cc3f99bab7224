use Rattle.std.proofs.Common.{◌≡◌, Some, None, map, ap, ◌∙◌, refl}
use Rattle.um_model.specs.Units as model
use Rattle.um_resolve.specs.View.{unit_file_of}
use Rattle.um_unit.specs.Sources.{assigned_of}
use Rattle.um_unit.specs.View.{settings_of, warnings_seen}
use Rattle.um_unit.proofs.UpperLemmas.{unit_is}
use Rattle.um_unit.proofs.loader.unit_without_file.Goals as goal
use Rattle.um_model.specs.FileForms.{without_install}

pub returns : goal.returns
returns c =
    let sources = map model.source_of (map unit_file_of c.args.files.now) in
    let assigned = rw c.as_slice.ensures.value at c.in_ok-assigned.ensures in
    let assigns : map assigned_of c.in_ok-assigned.assigned.items ≡ model.assignments_in (Some c.suffix.result) sources =
    assigned ∙ (rw c.suffix.ensures at c.in_ok-sources.ensures.assigned) in
    let sets = rw c.as_slice-2.ensures.value at c.in_ok-settings.ensures in
    let warns = ap (λ files. warnings_seen files.items) c.in_ok-warnings.ensures.ok ∙ c.in_ok-sources.ensures.warned in
    ap {B = model.LoadedUnit} (λ install. record { name = c.in_ok-name.name; path = None; settings = record (settings_of c.in_ok-settings.settings) { install = install }; warnings = warnings_seen c.in_ok-warnings.warnings.value.items }) c.nothing.ensures
    ∙ ap without_install (unit_is c.args.profile c.args.unit.now sources c.in_ok-name.ensures refl c.suffix.ensures assigns sets warns)
