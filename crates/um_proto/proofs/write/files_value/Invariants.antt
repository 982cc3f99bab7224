use Rattle.std.proofs.Common.{◌≡◌, map, take}
use Rattle.serde_json.specs.View.{view}
use Rattle.um_proto.specs.Written.{file_data}
use Rattle.um_resolve.specs.View.{file_of}
use Rattle.um_proto.proofs.write.files_value.Given as goal

abbrev pub invariant-loop-file : goal.invariant-loop-file
invariant-loop-file l = map view l.list.items ≡ map file_data (map file_of (take l.file-index l.files))
