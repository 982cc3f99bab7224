use Rattle.std.proofs.Common.{◌≡◌, map, take}
use Rattle.std.specs.List.{flat_map}
use Rattle.um_model.specs.Names.{suffix_of}
use Rattle.um_model.specs.Units as model
use Rattle.um_resolve.specs.View.{unit_file_of}
use Rattle.um_unit.specs.Sources.{all_assigned, assigned_in}
use Rattle.um_unit.specs.Tests.{warned_in}
use Rattle.um_unit.specs.View.{warnings_seen}
use Rattle.um_unit.proofs.contents.contents_of.Given as goal

-- the contents of the files so far
abbrev pub invariant-loop-file : goal.invariant-loop-file
invariant-loop-file l =
    let sources = map model.source_of (map unit_file_of (take l.file-index l.files)) in
    (all_assigned (suffix_of l.unit) l.contents.sources.items ≡ flat_map (λ (s : model.Source). assigned_in (suffix_of l.unit) s.reading) sources)
    × (warnings_seen l.contents.warnings.items ≡ flat_map (warned_in l.profile l.unit) sources)
