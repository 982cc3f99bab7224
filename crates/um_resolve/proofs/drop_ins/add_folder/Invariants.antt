use Rattle.std.proofs.Common.{◌≡◌, string_bytes}
use Rattle.std.specs.List.{flat_map}
use Rattle.um_model.specs.Resolution as model
use Rattle.um_resolve.specs.View.{added, by_file_of}
use Rattle.um_resolve.proofs.drop_ins.add_folder.Given as goal

-- the drop-ins so far, with those of the remaining entries, are all
abbrev pub invariant-loop-path : goal.invariant-loop-path
invariant-loop-path l =
    added (by_file_of l.by_file.entries) (flat_map (model.drop_in_at (string_bytes l.front)) l.path-iterator)
    ≡ added (by_file_of l.initial.by_file.entries) (flat_map (model.drop_in_at (string_bytes l.front)) l.initial.path-iterator)
