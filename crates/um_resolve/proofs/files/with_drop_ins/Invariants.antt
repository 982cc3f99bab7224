use Rattle.std.proofs.Common.{◌≡◌, ◌++◌, take, map as each}
use Rattle.um_resolve.specs.View.{unit_file_of}
use Rattle.um_resolve.proofs.files.with_drop_ins.Given as goal

-- the files that were there, and those of the drop-ins so far
abbrev pub invariant-loop-drop_in : goal.invariant-loop-drop_in
invariant-loop-drop_in l =
    each unit_file_of l.files.items ≡ each unit_file_of l.initial.files.items ++ each unit_file_of (take l.drop_in-index l.drop_in-items)
