use Rattle.std.proofs.Common.{◌∙◌, ap, map, sym}
use Rattle.um_model.specs.Units as model
use Rattle.um_resolve.specs.View.{resolution_of, unit_file_of}
use Rattle.um_unit.specs.View.{loading_with}
use Rattle.um_unit.proofs.loader.loading_at.Goals as goal

pub returns-in_ok-unit_without_file-in-NoFile : goal.returns-in_ok-unit_without_file-in-NoFile
returns-in_ok-unit_without_file-in-NoFile c =
    ap model.Found c.in_ok-unit_without_file-in-NoFile.ensures
    ∙ ap (λ r. loading_with c.args.profile (resolution_of r) (map model.source_of (map unit_file_of c.args.files.now))) (sym c.in-NoFile.is)
