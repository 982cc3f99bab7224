use Rattle.std.proofs.Common.{◌≡◌, take, map as each}
use Rattle.um_resolve.specs.View.{file_of, unit_file_of}
use Rattle.um_resolve.proofs.files.owned_files.Given as goal

-- the copies so far
abbrev pub invariant-loop-source : goal.invariant-loop-source
invariant-loop-source l = each file_of l.files.items ≡ each unit_file_of (take l.source-index l.sources)
