use Rattle.std.proofs.Common.{◌≡◌, Some, map, sym, ap, ◌∙◌, option_map, string_bytes}
use Rattle.um_model.specs.Units as model
use Rattle.um_resolve.specs.View.{unit_file_of}
use Rattle.um_unit.specs.Sources.{assigned_of}
use Rattle.um_unit.specs.View.{settings_of, warnings_seen}
use Rattle.um_unit.proofs.UpperLemmas.{found_by_file, reason_is, unit_is}
use Rattle.um_unit.proofs.loader.loading_by_file.Goals as goal

pub returns : goal.returns
returns c =
    let sources = map model.source_of (map unit_file_of c.args.files.now) in
    let assigned = rw c.as_slice.ensures.value at c.in_ok-assigned.ensures in
    let assigns : map assigned_of c.in_ok-assigned.assigned.items ≡ model.assignments_in (Some c.suffix.result) sources =
    assigned ∙ (rw c.suffix.ensures at c.in_ok-sources.ensures.assigned) in
    let sets = rw c.as_slice-2.ensures.value at c.in_ok-settings.ensures in
    let reason = rw (c.as_slice-3.ensures.value, c.deref.ensures) at c.in_ok-reason.ensures in
    let warns = ap (λ files. warnings_seen files.items) c.in_ok-warnings.ensures.ok ∙ c.in_ok-sources.ensures.warned in
    found_by_file c.args.profile c.args.unit.now c.args.path.now sources
    (ap (option_map string_bytes) (sym c.in-None.is) ∙ reason_is c.args.profile c.args.unit.now sources {settings = settings_of c.in_ok-settings.settings} c.suffix.ensures c.suffix-suffix.ensures assigns sets reason)
    (unit_is c.args.profile c.args.unit.now sources c.in_ok-name.ensures (ap Some c.in_ok-path.ensures.ok) c.suffix.ensures assigns sets warns)
