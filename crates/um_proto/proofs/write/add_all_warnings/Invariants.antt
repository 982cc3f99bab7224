use Rattle.std.proofs.Common.{◌≡◌, ◌++◌, drop}
use Rattle.um_proto.specs.Written.{warnings_text}
use Rattle.um_unit.specs.View.{warnings_seen}
use Rattle.um_proto.proofs.write.add_all_warnings.Given as goal

-- the text, followed by the warnings of the remaining files, is the result
abbrev pub invariant-loop-file : goal.invariant-loop-file
invariant-loop-file l = l.text.items ++ warnings_text (warnings_seen (drop l.file-index l.files)) ≡ l.fn.text.items ++ warnings_text (warnings_seen l.files)
