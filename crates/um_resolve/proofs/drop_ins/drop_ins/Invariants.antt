use Rattle.std.proofs.Common.{◌≡◌, ◌++◌, map as each}
use Rattle.um_resolve.specs.View.{text_of, unit_file_of}
use Rattle.um_resolve.proofs.drop_ins.drop_ins.Given as goal

-- those found and the remaining ones are all
abbrev pub invariant-loop-drop_in : goal.invariant-loop-drop_in
invariant-loop-drop_in l = each unit_file_of l.found.items ++ each text_of l.drop_in-iterator ≡ each text_of l.initial.drop_in-iterator
